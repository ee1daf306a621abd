-- The first start inside a part of the octets of packets, as octets are added.
-- Assumes nothing.
use mathlib.Core.Path.{◌≡◌, refl, sym, ap, ap₂, ◌∙◌}
use mathlib.Core.Logic.{◌⊎◌, inl, inr}
use mathlib.Core.List.{List, [], ◌∷◌, ◌++◌, append_assoc, append-nil}
use mathlib.Core.Bool.{Bool, true, false}
use Prim.Native.Nat.{ℕ, zero, ◌+◌, ◌-◌, ◌≤◌, ◌<◌}
use native.Mathlib.Nat.{add-zero, zero-add}
use native.Mathlib.Omega.{arith}
use lib.ListN.{length, length-append}
use lib.Dec.{leb, ltb, eqb}
use borrow.Author.Tests.{leb-true, ltb-true, eqb-true, lt-ltb, eq-eqb, ne_eqb}
use Rattle.octets.specs.Basics.{pick, and, All}
use Rattle.octets.proofs.Choices.{and_true}
use Rattle.octets.proofs.Fronts.{all_joined}
use Rattle.packets.specs.Packet.{end_to_end}
use Rattle.frames.specs.Frame.{idle_zone, no_start}
use Rattle.carries.specs.Carries.{starts, first_start, Among, Between}
use Rattle.carries.proofs.Laid.{first_start_later, first_start_there, first_start_range}

-- u, or v where u is no start
abbrev pub or_else : ℕ → ℕ → ℕ
or_else u v = pick (eqb u no_start) v u

or_else_none : (u : ℕ) → or_else u no_start ≡ u
or_else_none u = go (eqb u no_start) refl
  where
    go : (b : Bool) → eqb u no_start ≡ b → pick b no_start u ≡ u
    go true e = sym (eqb-true u no_start e)
    go false e = refl

-- ---- among any starts

-- the first start among two lists of them, inside a zone that is not too long for a pointer
first_start-append : (z o : ℕ) (xs ys : List ℕ) → z ≤ no_start
    → first_start z o (xs ++ ys) ≡ or_else (first_start z o xs) (first_start z o ys)
unfolding first_start
first_start-append z o [] ys h = refl
first_start-append z o (x ∷ xs) ys h = go (and (leb o x) (ltb x (o + z))) refl (first_start-append z o xs ys h)
  where
    go : (b : Bool) → and (leb o x) (ltb x (o + z)) ≡ b
        → first_start z o (xs ++ ys) ≡ or_else (first_start z o xs) (first_start z o ys)
        → pick b (x - o) (first_start z o (xs ++ ys)) ≡ or_else (pick b (x - o) (first_start z o xs)) (first_start z o ys)
    go true e ih =
        let t = and_true _ _ e in
        let low = leb-true o x t.0 in
        let high = ltb-true x (o + z) t.1 in
        sym (ap (λ (b : Bool). pick b (first_start z o ys) (x - o)) (ne_eqb (x - o) no_start (omega arith)))
    go false e ih = ih

-- a longer zone finds no other start among those that lie below its first part's end
first_start_below : (a n o : ℕ) (xs : List ℕ) → All (λ x. x < o + a) xs → first_start (a + n) o xs ≡ first_start a o xs
unfolding first_start
first_start_below a n o [] h = refl
first_start_below a n o (x ∷ xs) h =
    let low : x < o + a = h.0 in
    ap₂ (λ (b : Bool) (u : ℕ). pick (and (leb o x) b) (x - o) u)
    (lt-ltb x (o + (a + n)) (omega arith) ∙ sym (lt-ltb x (o + a) low))
    (first_start_below a n o xs h.1)

-- packets that begin beyond the zone do not count
first_start_cut : (z o b : ℕ) (xs : List ℕ) (ps : List (List ℕ)) → z ≤ no_start → o + z ≤ b
    → first_start z o (xs ++ starts b ps) ≡ first_start z o xs
first_start_cut z o b xs ps h k =
    first_start-append z o xs (starts b ps) h
    ∙ ap (or_else (first_start z o xs)) (first_start_later z o b ps k)
    ∙ or_else_none (first_start z o xs)

-- an empty zone has no start
pub first_start_empty : (o : ℕ) (xs : List ℕ) → first_start zero o xs ≡ no_start
first_start_empty o xs = go (first_start_range zero o xs)
  where
    go : (first_start zero o xs < zero) ⊎ (first_start zero o xs ≡ no_start) → first_start zero o xs ≡ no_start
    go (inl h) = absurd (omega arith)
    go (inr e) = e

-- no first start looks like the pointer of an idle zone
pub first_start_not_idle : (z o : ℕ) (xs : List ℕ) → z ≤ idle_zone → first_start z o xs ≡ idle_zone → ⊥
first_start_not_idle z o xs h e = go (first_start_range z o xs)
  where
    go : (first_start z o xs < z) ⊎ (first_start z o xs ≡ no_start) → ⊥
    go (inl k) = omega arith
    go (inr k) = omega arith

-- ---- among those of packets

-- packets of an octet at least
abbrev pub Some : List (List ℕ) → Type 0
Some ps = All (λ p. 0 < length p) ps

starts-append : (i : ℕ) (ps qs : List (List ℕ)) → starts i (ps ++ qs) ≡ starts i ps ++ starts (i + length (end_to_end ps)) qs
unfolding starts
starts-append i [] qs = rw (add-zero i)
starts-append i (p ∷ ps) qs =
    ap (λ (xs : List ℕ). i ∷ xs)
    (starts-append (i + length p) ps qs
    ∙ ap (λ (k : ℕ). starts (i + length p) ps ++ starts k qs) (omega (arith, length-append p (end_to_end ps))))

starts_below : (i k : ℕ) (ps : List (List ℕ)) → Some ps → i + length (end_to_end ps) ≤ k → All (λ x. x < k) (starts i ps)
unfolding starts
starts_below i k [] h l = tt
starts_below i k (p ∷ ps) h l =
    let some : 0 < length p = h.0 in
    let all : i + (length p + length (end_to_end ps)) ≤ k = rw (← length-append p (end_to_end ps)) l in
    (omega arith, starts_below (i + length p) k ps h.1 (omega arith))

among_later : (n : ℕ) (xs ys : List ℕ) → Among n ys → Among n (xs ++ ys)
among_later n [] ys h = h
among_later n (x ∷ xs) ys h = go (eqb n x) (among_later n xs ys h)
  where
    go : (b : Bool) → Among n (xs ++ ys) → pick b (Unit {0}) (Among n (xs ++ ys))
    go true k = tt
    go false k = k

-- no packet lies over the place where some of them end and the others begin
pub between_ends : (qs rest : List (List ℕ)) → Between (qs ++ rest) (length (end_to_end qs))
unfolding starts
between_ends qs rest =
    rw (starts-append 0 qs rest, append_assoc) (among_later here (starts 0 qs) _ (go rest))
  where
    here : ℕ
    here = length (end_to_end qs)

    among_first : (n : ℕ) (xs : List ℕ) → n ≡ here → Among here (n ∷ xs)
    among_first n xs e = rw (eq-eqb here n (sym e)) tt

    go : (rest : List (List ℕ)) → Among here (starts (0 + here) rest ++ (length (end_to_end (qs ++ rest)) ∷ []))
    go [] = among_first (length (end_to_end (qs ++ []))) [] (ap (λ (l : List (List ℕ)). length (end_to_end l)) (append-nil qs))
    go (p ∷ rest) = among_first (0 + here) (starts (0 + here + length p) rest ++ (length (end_to_end (qs ++ (p ∷ rest))) ∷ [])) (zero-add here)

-- the packet p behind those of qs
module _ (qs : List (List ℕ)) (p : List ℕ) (rest : List (List ℕ)) (full : Some qs) where
  abbrev from : ℕ
  from = length (end_to_end qs)

  abbrev all : List ℕ
  all = starts 0 (qs ++ (p ∷ rest))

  -- the starts of all: those before p, and those from p on
  all_cut : all ≡ starts 0 qs ++ starts from (p ∷ rest)
  all_cut = starts-append 0 qs (p ∷ rest) ∙ ap (λ (k : ℕ). starts 0 qs ++ starts k (p ∷ rest)) (zero-add from)

  -- octets of p from its first on bring its start, if the zone has none before it
  pub first_start_new : (o a n : ℕ) → o + a ≡ from → 0 < n → a + n ≤ no_start → first_start (a + n) o all ≡ or_else (first_start a o all) a
  unfolding starts
  first_start_new o a n at some small =
      ap (first_start (a + n) o) all_cut
      ∙ first_start-append (a + n) o (starts 0 qs) (starts from (p ∷ rest)) small
      ∙ ap₂ or_else (first_start_below a n o (starts 0 qs) (starts_below 0 (o + a) qs full (omega arith)))
      (first_start_there (a + n) o from (starts (from + length p) rest) (omega arith) (omega arith) ∙ omega arith)
      ∙ sym (ap (λ (u : ℕ). or_else u a) (ap (first_start a o) all_cut ∙ first_start_cut a o from (starts 0 qs) (p ∷ rest) (omega arith) (omega arith)))

  -- later octets of p bring no start
  pub first_start_on : (o a n t : ℕ) → o + a ≡ from + t → 0 < t → t + n ≤ length p → a + n ≤ no_start
      → first_start (a + n) o all ≡ first_start a o all
  unfolding starts
  first_start_on o a n t at some fits small =
      ap (first_start (a + n) o) cut
      ∙ first_start_cut (a + n) o (from + length p) begun rest small (omega arith)
      ∙ first_start_below a n o begun begun_below
      ∙ sym (ap (first_start a o) cut ∙ first_start_cut a o (from + length p) begun rest (omega arith) (omega arith))
    where
      begun : List ℕ
      begun = starts 0 qs ++ (from ∷ [])

      cut : all ≡ begun ++ starts (from + length p) rest
      cut = all_cut ∙ sym (append_assoc (starts 0 qs) (from ∷ []) (starts (from + length p) rest))

      begun_below : All (λ x. x < o + a) begun
      begun_below =
          all_joined (λ x. x < o + a) (starts 0 qs) (from ∷ []) (starts_below 0 (o + a) qs full (omega arith)) (omega arith, tt)
