-- What `look` says depends on the first octets only: octets added behind change nothing once it has said more than `more`.
-- Assumes nothing.
use mathlib.Core.Path.{◌≡◌, refl, sym, ap, subst, ◌∙◌}
use mathlib.Core.Logic.{◌⊎◌, inl, inr}
use mathlib.Core.List.{List, [], ◌∷◌, ◌++◌}
use mathlib.Core.Bool.{Bool, true, false}
use Prim.Native.Nat.{ℕ, zero, suc, ◌+◌, ◌-◌, ◌/◌, ◌≤◌, ◌<◌}
use native.Mathlib.Omega.{arith}
use lib.ListN.{length, take, drop, length-append, length-take, length-drop, take-append-drop}
use lib.Seq.{take_all, take-append-le, drop-append-le, length-take-le}
use lib.Dec.{ltb, eqb}
use borrow.Author.Tests.{ltb-true, ltb-false, lt-ltb, le-ltb}
use Rattle.octets.specs.Basics.{pick, number, part}
use Rattle.octets.proofs.Choices.{split, apart, picked}
use Rattle.packets.specs.Packet.{Look, more, damaged, whole, sized, counted, space, header_length, encapsulation, packet_version, protocol_of, length_of_length, look, WellFormed}
use Rattle.packets.proofs.Sizes.{header_positive, header_most}

-- ---- what a look bounds: a header that is not whole is short, and a packet has an octet at least and is within the limit

abbrev pub Bounded : ℕ → ℕ → Look → Type 0
Bounded limit n more = n < 8
Bounded limit n (damaged d) = Unit {0}
Bounded limit n (whole l) = (1 ≤ l) × (l ≤ limit)

-- the kinds of packet by their version: 0, 7, and no other
kind : Bool → Bool → ℕ → ℕ → ℕ → List ℕ → Look
kind zeroth seventh limit protocol n os = pick zeroth (space limit os) (pick seventh (encapsulation limit protocol n os) (damaged 1))

module _ (limit n : ℕ) where
  sized_bounded : (a b : Bool) (size total : ℕ) → ltb total size ≡ a → ltb limit total ≡ b → 1 ≤ size
      → Bounded limit n (pick a (damaged 3) (pick b (damaged 4) (whole total)))
  sized_bounded true b size total e f h = tt
  sized_bounded false true size total e f h = tt
  sized_bounded false false size total e f h = (omega (arith, ltb-false total size e), ltb-false limit total f)

  counted_bounded : (size total : ℕ) → 1 ≤ size → size ≤ 8 → Bounded limit n (counted limit n size total)
  unfolding counted sized
  counted_bounded size total h k = go (ltb n size) refl
    where
      go : (t : Bool) → ltb n size ≡ t → Bounded limit n (pick t more (sized limit size total))
      go true e = omega (arith, ltb-true n size e)
      go false e = sized_bounded (ltb total size) (ltb limit total) size total refl refl h

encapsulation_bounded : (limit protocol code : ℕ) (os : List ℕ) → 1 ≤ limit → Bounded limit (length os) (encapsulation limit protocol code os)
unfolding encapsulation
encapsulation_bounded limit protocol zero os h = go (eqb protocol 0)
  where
    go : (t : Bool) → Bounded limit (length os) (pick t (whole 1) (damaged 2))
    go true = (omega arith, h)
    go false = tt
encapsulation_bounded limit protocol (suc n) os h =
    counted_bounded limit (length os) (header_length (suc n)) _ (header_positive (suc n)) (header_most (suc n))

kind_bounded : (zeroth seventh : Bool) (limit protocol code : ℕ) (os : List ℕ) → 1 ≤ limit
    → Bounded limit (length os) (kind zeroth seventh limit protocol code os)
unfolding kind space
kind_bounded true seventh limit protocol code os h = counted_bounded limit (length os) 6 _ (omega arith) (omega arith)
kind_bounded false true limit protocol code os h = encapsulation_bounded limit protocol code os h
kind_bounded false false limit protocol code os h = tt

pub look_bounded : (limit : ℕ) (os : List ℕ) → 1 ≤ limit → Bounded limit (length os) (look limit os)
unfolding look kind
look_bounded limit [] h = omega arith
look_bounded limit (o ∷ os) h =
    kind_bounded (eqb (packet_version o) 0) (eqb (packet_version o) 7) limit (protocol_of o) (length_of_length o) (o ∷ os) h

-- a packet has an octet at least, and no more than the limit
pub look_bounds : (limit : ℕ) (os : List ℕ) {l : ℕ} → 1 ≤ limit → look limit os ≡ whole l → (1 ≤ l) × (l ≤ limit)
look_bounds limit os h e = subst (Bounded limit (length os)) e (look_bounded limit os h)

-- ---- a header of `size` octets that is read from the octet `from` on: what both kinds of packet have in common

abbrev headed : ℕ → ℕ → ℕ → (List ℕ → ℕ) → List ℕ → Look
headed limit from size value os = counted limit (length os) size (value (part from size os))

sized_least : (limit size total : ℕ) {l : ℕ} → sized limit size total ≡ whole l → size ≤ l
unfolding sized
sized_least limit size total {l} e =
    picked (ltb total size) (damaged 3) _ e
    (λ t q. apart (cc))
    (λ t q. picked (ltb limit total) (damaged 4) (whole total) q
    (λ u r. apart (cc))
    (λ u r.
    let same : total ≡ l = cc in
    omega (arith, ltb-false total size t)))

counted_least : (limit len size total : ℕ) {l : ℕ} → counted limit len size total ≡ whole l → size ≤ l
unfolding counted
counted_least limit len size total e =
    picked (ltb len size) more (sized limit size total) e (λ t q. apart (cc)) (λ t q. sized_least limit size total q)

encapsulation_least : (limit protocol code : ℕ) (os : List ℕ) {l : ℕ} → encapsulation limit protocol code os ≡ whole l → header_length code ≤ l
unfolding encapsulation header_length
encapsulation_least limit protocol zero os {l} e =
    picked (eqb protocol 0) (whole 1) (damaged 2) e (λ t q. let one : 1 ≡ l = cc in omega arith) (λ t q. apart (cc))
encapsulation_least limit protocol (suc n) os e = counted_least limit (length os) (header_length (suc n)) _ e

sized_not_more : (limit size total : ℕ) → sized limit size total ≡ more → ⊥
unfolding sized
sized_not_more limit size total e =
    picked (ltb total size) (damaged 3) _ e (λ t q. apart (cc))
    (λ t q. picked (ltb limit total) (damaged 4) (whole total) q (λ u r. apart (cc)) (λ u r. apart (cc)))

-- what stands in a list's first octets stands there in a longer list
part-append : (from size : ℕ) (xs ys : List ℕ) → from ≤ size → size ≤ length xs → part from size (xs ++ ys) ≡ part from size xs
unfolding part
part-append from size xs ys h k =
    ap (take (size - from)) (drop-append-le from xs ys (omega arith))
    ∙ take-append-le (size - from) (drop from xs) ys (omega (arith, length-drop from xs))

-- what `look` says of octets, b, beside what it says of the first n of them, a
pub record Grown (n : ℕ) (a b : Look) : Type 0 where
  pub settled : (a ≡ more) ⊎ (b ≡ a)
  pub short : {l : ℕ} → a ≡ more → b ≡ whole l → n < l

headed_grown : (limit from size : ℕ) (value : List ℕ → ℕ) (xs ys : List ℕ) → from ≤ size
    → Grown (length xs) (headed limit from size value xs) (headed limit from size value (xs ++ ys))
unfolding counted
headed_grown limit from size value xs ys h = split size (length xs) enough few
  where
    stated : (zs : List ℕ) → size ≤ length zs → headed limit from size value zs ≡ sized limit size (value (part from size zs))
    stated zs k = rw (le-ltb (length zs) size k)

    enough : size ≤ length xs → Grown (length xs) (headed limit from size value xs) (headed limit from size value (xs ++ ys))
    enough k = record {
      settled = inr (stated (xs ++ ys) (omega (arith, length-append xs ys)) ∙ ap (λ os. sized limit size (value os)) (part-append from size xs ys h k) ∙ sym (stated xs k));
      short = λ m e. absurd (sized_not_more limit size _ (sym (stated xs k) ∙ m));
    }

    few : length xs < size → Grown (length xs) (headed limit from size value xs) (headed limit from size value (xs ++ ys))
    few k = record {
      settled = inl (rw (lt-ltb (length xs) size k));
      short = λ m e. omega (arith, counted_least limit (length (xs ++ ys)) size _ e);
    }

-- an answer that the first octet gives by itself
fixed_grown : (n : ℕ) (a : Look) → (a ≡ more → ⊥) → Grown n a a
fixed_grown n a h = record { settled = inr refl; short = λ m e. absurd (h m) }

encapsulation_grown : (limit protocol n : ℕ) (xs ys : List ℕ)
    → Grown (length xs) (encapsulation limit protocol n xs) (encapsulation limit protocol n (xs ++ ys))
unfolding encapsulation
encapsulation_grown limit protocol zero xs ys =
    fixed_grown (length xs) (pick (eqb protocol 0) (whole 1) (damaged 2))
    (λ e. picked (eqb protocol 0) (whole 1) (damaged 2) e (λ t q. apart (cc)) (λ t q. apart (cc)))
encapsulation_grown limit protocol (suc n) xs ys =
    let size : ℕ = header_length (suc n) in
    headed_grown limit (size / 2) size number xs ys (omega arith)

kind_grown : (zeroth seventh : Bool) (limit protocol n : ℕ) (xs ys : List ℕ)
    → Grown (length xs) (kind zeroth seventh limit protocol n xs) (kind zeroth seventh limit protocol n (xs ++ ys))
unfolding kind space
kind_grown true seventh limit protocol n xs ys = headed_grown limit 4 6 (λ os. number os + 7) xs ys (omega arith)
kind_grown false true limit protocol n xs ys = encapsulation_grown limit protocol n xs ys
kind_grown false false limit protocol n xs ys = fixed_grown (length xs) (damaged 1) (λ e. apart (cc))

-- The law that the others follow from: it settles what it says once, and says `more` only of less than a packet.
pub look_grown : (limit : ℕ) (xs ys : List ℕ) → 1 ≤ limit → Grown (length xs) (look limit xs) (look limit (xs ++ ys))
unfolding look kind
look_grown limit [] ys h = record { settled = inl refl; short = λ m e. (look_bounds limit ys h e).0 }
look_grown limit (o ∷ os) ys h =
    kind_grown (eqb (packet_version o) 0) (eqb (packet_version o) 7) limit (protocol_of o) (length_of_length o) (o ∷ os) ys

-- a length that the first octets say is said for all
pub look-append : (limit : ℕ) (xs ys : List ℕ) {l : ℕ} → 1 ≤ limit → look limit xs ≡ whole l → look limit (xs ++ ys) ≡ whole l
look-append limit xs ys {l} h e = go (look_grown limit xs ys h).settled
  where
    go : (look limit xs ≡ more) ⊎ (look limit (xs ++ ys) ≡ look limit xs) → look limit (xs ++ ys) ≡ whole l
    go (inl m) = cc
    go (inr q) = cc

-- of a part of a packet `look` says that there is more to come, or what it says of the packet
pub look_prefix : (limit : ℕ) (xs ys : List ℕ) {l : ℕ} → 1 ≤ limit → look limit (xs ++ ys) ≡ whole l
    → (look limit xs ≡ more) ⊎ (look limit xs ≡ whole l)
look_prefix limit xs ys {l} h e = go (look_grown limit xs ys h).settled
  where
    go : (look limit xs ≡ more) ⊎ (look limit (xs ++ ys) ≡ look limit xs) → (look limit xs ≡ more) ⊎ (look limit xs ≡ whole l)
    go (inl m) = inl m
    go (inr q) = inr (cc)

-- the octets of a packet, cut off by the length that `look` says, are well formed
pub look-take : (limit l : ℕ) (os : List ℕ) → 1 ≤ limit → look limit os ≡ whole l → l ≤ length os → WellFormed limit (take l os)
look-take limit l os h e k = go (look_prefix limit (take l os) (drop l os) h whole_of_both)
  where
    whole_of_both : look limit (take l os ++ drop l os) ≡ whole l
    whole_of_both = rw take-append-drop e

    go : (look limit (take l os) ≡ more) ⊎ (look limit (take l os) ≡ whole l) → look limit (take l os) ≡ whole (length (take l os))
    go (inl m) = absurd (let s : length (take l os) < l = (look_grown limit (take l os) (drop l os) h).short m whole_of_both in omega (arith, length-take l os))
    go (inr q) = q ∙ ap whole (sym (length-take-le l os k))

-- the first eight octets say it all
pub look_front : (limit : ℕ) (os : List ℕ) → 1 ≤ limit → look limit (take 8 os) ≡ look limit os
look_front limit os h = split 8 (length os) (λ k. long k (look_grown limit (take 8 os) (drop 8 os) h).settled) (λ k. ap (look limit) (take_all 8 os (omega arith)))
  where
    long : 8 ≤ length os → (look limit (take 8 os) ≡ more) ⊎ (look limit (take 8 os ++ drop 8 os) ≡ look limit (take 8 os)) → look limit (take 8 os) ≡ look limit os
    long k (inl m) = absurd (let b : length (take 8 os) < 8 = subst (Bounded limit (length (take 8 os))) m (look_bounded limit (take 8 os) h) in omega (arith, length-take-le 8 os k))
    long k (inr q) = sym q ∙ ap (look limit) (take-append-drop 8 os)
