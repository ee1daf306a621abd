-- The one kind of record that the test for refusal 10 lets through and no call leads to, as a computed test: octets held that no
-- zone can continue.
-- Assumes nothing.
use mathlib.Core.Logic.{◌↔◌}
use mathlib.Core.Path.{◌≡◌, refl, sym, ap, ◌∙◌}
use mathlib.Core.List.{List, [], ◌∷◌, ◌++◌, append_assoc}
use mathlib.Core.Bool.{true, false}
use Prim.Native.Nat.{ℕ, zero, suc, ◌+◌, ◌-◌, ◌*◌, ◌≤◌, ◌<◌}
use native.Mathlib.Nat.{add-zero}
use native.Mathlib.Omega.{arith}
use lib.ListN.{length, take, drop, replicate, length-append, length-drop, length-replicate, replicate-append-replicate}
use lib.Seq.{length-take-le, drop-append-le, take-append-add}
use lib.Dec.{leb, ltb, eqb}
use borrow.Author.Tests.{ltb-true, ltb-false, leb-true, le-leb, le-ltb}
use Rattle.octets.specs.Basics.{and, AllOctets, number_from, number, part}
use Rattle.octets.proofs.Choices.{apart, and_true}
use Rattle.octets.proofs.Fronts.{part-append, all_append, all_zeros}
use Rattle.octets.proofs.Tests.{test, and_both}
use Rattle.packets.specs.Packet.{Look, more, damaged, whole, look, Undamaged, sized, counted, space, encapsulation, header_length, packet_version, protocol_of, length_of_length}
use Rattle.frames.specs.Frame.{in_range}
use Rattle.frames.specs.declared.Settings.{Settings}
use Rattle.extractor.specs.Records.{unfinished, reachable}
use Rattle.extractor.specs.Reach.{Reached, CanGoOn, Continues, zeros, room_to_state, encapsulation_goes_on, can_go_on, held_goes_on}
use Rattle.extractor.specs.declared.Extractor.{Extractor}
use Rattle.extractor.specs.declared.Extractor.TheVariants.{Fresh, Astray, InStep, Walking, Leaving}
use Rattle.extractor.proofs.Places.{Place, in_packet, place}
use Rattle.extractor.proofs.Reaches.{reached_exactly}

-- ---- numbers of octets

number_from_snoc : (n : ℕ) (xs : List ℕ) (v : ℕ) → number_from n (xs ++ (v ∷ [])) ≡ number_from n xs * 256 + v
unfolding number_from
number_from_snoc n [] v = refl
number_from_snoc n (x ∷ xs) v = number_from_snoc (n * 256 + x) xs v

-- octet by octet no larger
data Below : List ℕ → List ℕ → Type 0 where
  none : Below [] []
  next : {x y : ℕ} {xs ys : List ℕ} → x ≤ y → Below xs ys → Below (x ∷ xs) (y ∷ ys)

below_same : (xs : List ℕ) {ys zs : List ℕ} → Below ys zs → Below (xs ++ ys) (xs ++ zs)
below_same [] b = b
below_same (x ∷ xs) b = next {x = x} {y = x} (omega arith) (below_same xs b)

below_zeros : (z : List ℕ) → Below (replicate (length z) 0) z
below_zeros [] = none
below_zeros (o ∷ z) = next {x = 0} {y = o} (omega arith) (below_zeros z)

below-take : (n : ℕ) {xs ys : List ℕ} → Below xs ys → Below (take n xs) (take n ys)
below-take zero b = none
below-take (suc n) none = none
below-take (suc n) (next h b) = next h (below-take n b)

below-drop : (n : ℕ) {xs ys : List ℕ} → Below xs ys → Below (drop n xs) (drop n ys)
below-drop zero b = b
below-drop (suc n) none = none
below-drop (suc n) (next h b) = below-drop n b

below_number : {xs ys : List ℕ} (m n : ℕ) → m ≤ n → Below xs ys → number_from m xs ≤ number_from n ys
unfolding number_from
below_number m n h none = h
below_number m n h (next {x} {y} k b) = below_number (m * 256 + x) (n * 256 + y) (omega arith) b

below_part : (half size : ℕ) {xs ys : List ℕ} → Below xs ys → number (part half size xs) ≤ number (part half size ys)
unfolding number part
below_part half size b = below_number 0 0 (omega arith) (below-take (size - half) (below-drop half b))

-- ---- the headers

-- a header of `size` octets, of which those from `half` on state the length less `plus`
abbrev reads : Settings → ℕ → ℕ → ℕ → List ℕ → Look
reads s size half plus os = counted s.limit (length os) size (number (part half size os) + plus)

-- what the first octet makes of a header, and of the test
data Heads (s : Settings) (o : ℕ) : Type 0 where
  broken : (d : ℕ) → ((os : List ℕ) → look s.limit (o ∷ os) ≡ damaged d) → Heads s o
  lone : ((os : List ℕ) → look s.limit (o ∷ os) ≡ whole 1) → ((os : List ℕ) → can_go_on s (o ∷ os) ≡ true) → Heads s o
  headed : (size half plus : ℕ) → half < size → size ≤ 8 → ((n : ℕ) → n + plus < size → plus ≡ 0)
      → ((os : List ℕ) → look s.limit (o ∷ os) ≡ reads s size half plus (o ∷ os))
      → ((os : List ℕ) → can_go_on s (o ∷ os) ≡ room_to_state s size half plus (o ∷ os)) → Heads s o

capsule_head : (s : Settings) (o protocol n : ℕ) → ((os : List ℕ) → look s.limit (o ∷ os) ≡ encapsulation s.limit protocol n (o ∷ os))
    → ((os : List ℕ) → can_go_on s (o ∷ os) ≡ encapsulation_goes_on s n (o ∷ os)) → Heads s o
unfolding encapsulation encapsulation_goes_on header_length
capsule_head s o protocol zero e g =
    test (eqb protocol 0) (λ t. lone (λ os. rw (e os, t)) g) (λ t. broken 2 λ os. rw (e os, t))
capsule_head s o protocol (suc zero) e g =
    headed 2 1 0 (omega arith) (omega arith) (λ n h. refl) (λ os. e os ∙ simp add-zero) g
capsule_head s o protocol (suc (suc zero)) e g =
    headed 4 2 0 (omega arith) (omega arith) (λ n h. refl) (λ os. e os ∙ simp add-zero) g
capsule_head s o protocol (suc (suc (suc n))) e g =
    headed 8 4 0 (omega arith) (omega arith) (λ n h. refl) (λ os. e os ∙ simp add-zero) g

heads : (s : Settings) (o : ℕ) → Heads s o
unfolding look space can_go_on
heads s o =
    test (eqb (packet_version o) 0)
    (λ t. headed 6 4 7 (omega arith) (omega arith) (λ n h. absurd (omega arith)) (λ os. rw t) (λ os. rw t))
    (λ t. test (eqb (packet_version o) 7)
    (λ u. capsule_head s o (protocol_of o) (length_of_length o) (λ os. rw (t, u)) (λ os. rw t))
    (λ u. broken 1 λ os. rw (t, u)))

sized_undamaged : (limit size total : ℕ) → Undamaged (sized limit size total) → (size ≤ total) × (total ≤ limit)
unfolding sized
sized_undamaged limit size total sound =
    test (ltb total size) (λ t. absurd (sound 3 (rw t)))
    (λ t. test (ltb limit total) (λ u. absurd (sound 4 (rw (t, u)))) (λ u. (ltb-false total size t, ltb-false limit total u)))

sized_sound : (limit size total : ℕ) → size ≤ total → total ≤ limit → sized limit size total ≡ whole total
unfolding sized
sized_sound limit size total h k = rw (le-ltb total size h, le-ltb limit total k)

-- a zone that goes on leaves room to state a length
room_from_zone : (s : Settings) (size half plus : ℕ) (held z : List ℕ) → length z ≡ s.zone
    → Undamaged (reads s size half plus (held ++ z)) → room_to_state s size half plus held ≡ true
unfolding room_to_state counted
room_from_zone s size half plus held z fits sound =
    test (ltb (length (held ++ zeros s)) size) (λ t. rw t)
    (λ t.
    let same : length (held ++ z) ≡ length (held ++ zeros s) = simp (length-append, length-replicate) (omega arith) in
    let long : ltb (length (held ++ z)) size ≡ false = rw same t in
    let (low, high) = sized_undamaged s.limit size (number (part half size (held ++ z)) + plus) (λ d e. sound d (rw (long, e))) in
    let below : Below (zeros s) z = rw fits at (below_zeros z) in
    let least : number (part half size (held ++ zeros s)) ≤ number (part half size (held ++ z)) = below_part half size (below_same held below) in
    rw t (and_both (le-leb size s.limit (omega arith))
    (le-leb (number (part half size (held ++ zeros s)) + plus) s.limit (omega arith))))

-- a length whose last octet is v
number_at_end : (size half : ℕ) (xs rest : List ℕ) (v : ℕ) → size ≡ suc (length xs) → half < size
    → number (part half size (xs ++ (v ∷ rest))) ≡ number (drop half xs) * 256 + v
unfolding number part
number_at_end size half xs rest v e h =
    let low : half ≤ length xs = omega arith in
    let count : size - half ≡ length (drop half xs) + 1 = simp length-drop (omega arith) in
    rw (drop-append-le half xs (v ∷ rest) low, count, take-append-add (drop half xs) (v ∷ rest) 1) (number_from_snoc 0 (drop half xs) v)

length-zeros : (n : ℕ) → length (replicate {A = ℕ} n 0) ≡ n
length-zeros n = length-replicate n 0

zeros_split : (i j n : ℕ) → i + suc j ≡ n → replicate {A = ℕ} n 0 ≡ replicate i 0 ++ (0 ∷ replicate j 0)
zeros_split i j n e = sym (replicate-append-replicate i (suc j) 0 ∙ ap (λ n. replicate n 0) e)

-- a zone, and that the header of what is held with it is not damaged
abbrev Zone : Settings → (List ℕ → Look) → List ℕ → Type 0
Zone s read held = (z : List ℕ) × AllOctets z × (length z ≡ s.zone) × Undamaged (read (held ++ z))

zero_zone : (s : Settings) (read : List ℕ → Look) (held : List ℕ) → Undamaged (read (held ++ zeros s)) → Zone s read held
zero_zone s read held sound = (zeros s, all_zeros s.zone, length-zeros s.zone, sound)

module _ (s : Settings) (size half plus : ℕ) (held : List ℕ) (inside : half < size) (short : size ≤ 8) (fits : size ≤ s.limit)
    (enough : size ≤ length (held ++ zeros s)) where
  read_long : (z : List ℕ) (n : ℕ) → length z ≡ s.zone → number (part half size (held ++ z)) + plus ≡ n → size ≤ n → n ≤ s.limit
      → reads s size half plus (held ++ z) ≡ whole n
  unfolding counted
  read_long z n z-length is low high =
      let long : ltb (length (held ++ z)) size ≡ false =
      le-ltb (length (held ++ z)) size
      (omega (arith, length-append held z, length-append held (zeros s), length-zeros s.zone)) in
      rw (long, is) (sized_sound s.limit size n low high)

  -- a header that states nothing yet can state its own size
  least_zone : length held < size → plus ≡ 0 → number (part half size (held ++ zeros s)) < size → Zone s (reads s size half plus) held
  least_zone lacks none-added less =
      let i : ℕ = size - suc (length held) in
      let j : ℕ = s.zone - suc i in
      let whole-zone : i + suc j ≡ s.zone = omega (arith, length-append held (zeros s), length-zeros s.zone) in
      let front : List ℕ = held ++ replicate i 0 in
      let z : List ℕ = replicate i 0 ++ (size ∷ replicate j 0) in
      let zeros-are : zeros s ≡ replicate i 0 ++ (0 ∷ replicate j 0) = zeros_split i j s.zone whole-zone in
      let front-size : size ≡ suc (length front) = omega (arith, length-append held (replicate i 0), length-zeros i) in
      let split : (v : ℕ) → number (part half size (held ++ (replicate i 0 ++ (v ∷ replicate j 0)))) ≡ number (drop half front) * 256 + v =
      λ v. rw (← append_assoc held (replicate i 0) (v ∷ replicate j 0)) (number_at_end size half front (replicate j 0) v front-size inside) in
      let least : number (drop half front) * 256 + 0 < size = rw (← split 0, ← zeros-are) less in
      let stated : number (part half size (held ++ z)) + plus ≡ size = omega (arith, split size) in
      let z-length : length z ≡ s.zone = simp (length-append, length-replicate) (omega arith) in
      let small : AllOctets z = all_append (replicate i 0) (size ∷ replicate j 0) (all_zeros i) (omega arith, all_zeros j) in
      let is : reads s size half plus (held ++ z) ≡ whole size = read_long z size z-length stated (omega arith) fits in
      (z, small, z-length, (λ d e. apart (cc is)))

-- room to state a length leaves a zone that goes on
zone_from_room : (s : Settings) (size half plus : ℕ) (held : List ℕ) → half < size → size ≤ 8 → ((n : ℕ) → n + plus < size → plus ≡ 0)
    → Undamaged (reads s size half plus held) → room_to_state s size half plus held ≡ true
    → Zone s (reads s size half plus) held
unfolding room_to_state counted sized
zone_from_room s size half plus held inside short added sound room =
    let least : ℕ = number (part half size (held ++ zeros s)) in
    test (ltb (length (held ++ zeros s)) size)
    (λ t. zero_zone s (reads s size half plus) held (λ d e. let z : more ≡ damaged d = rw t at e in apart (cc)))
    (λ t.
    let a = and_true (leb size s.limit) _ (rw t at room) in
    let fits : size ≤ s.limit = leb-true size s.limit a.0 in
    let high : least + plus ≤ s.limit = leb-true (least + plus) s.limit a.1 in
    let enough : size ≤ length (held ++ zeros s) = ltb-false (length (held ++ zeros s)) size t in
    test (ltb (least + plus) size)
    (λ u.
    let less : least + plus < size = ltb-true (least + plus) size u in
    let none-added : plus ≡ 0 = added least less in
    test (ltb (length held) size)
    (λ v. least_zone s size half plus held inside short fits enough (ltb-true (length held) size v) none-added (omega arith))
    (λ v.
    let same : part half size (held ++ zeros s) ≡ part half size held =
    part-append half size held (zeros s) (omega arith) (ltb-false (length held) size v) in
    let less-held : ltb (number (part half size held) + plus) size ≡ true = rw (← same) u in
    absurd (sound 3 (rw (v, less-held)))))
    (λ u.
    let is = read_long s size half plus held inside short fits enough (zeros s) (least + plus) (length-zeros s.zone) refl
    (ltb-false (least + plus) size u) high in
    zero_zone s (reads s size half plus) held (λ d e. apart (cc is))))

-- the octets that begin a packet and are not damaged have a zone that goes on with them exactly where the test passes
goes_on_exactly : (s : Settings) (held : List ℕ) → 1 ≤ length held → Undamaged (look s.limit held)
    → CanGoOn s held ↔ (can_go_on s held ≡ true)
goes_on_exactly s [] some-held sound = absurd (omega arith)
goes_on_exactly s (o ∷ os) some-held sound = go (heads s o)
  where
    go : Heads s o → CanGoOn s (o ∷ os) ↔ (can_go_on s (o ∷ os) ≡ true)
    go (broken d e) = absurd (sound d (e os))
    go (lone e g) = ((λ zone. g os), (λ t. zero_zone s (look s.limit) (o ∷ os) (λ d q. apart (cc (e (os ++ zeros s))))))
    go (headed size half plus inside short added e g) = (
      (λ zone. g os ∙ room_from_zone s size half plus (o ∷ os) zone.0 zone.2 (λ d q. zone.3 d (e (os ++ zone.0) ∙ q))),
      (λ t.
          let (z, small, fits, ok) = zone_from_room s size half plus (o ∷ os) inside short added (λ d q. sound d (e os ∙ q)) (sym (g os) ∙ t) in
          (z, small, fits, (λ d q. ok d (sym (e (os ++ z)) ∙ q)))),
    )

-- ---- the records that calls lead to, by a test

unfinished_sound : (n : ℕ) (r : Look) → unfinished n r ≡ true → Undamaged r
unfolding unfinished
unfinished_sound n r e d q = let z : false ≡ true = rw q at e in apart (cc)

continues_test : (s : Settings) (store : List ℕ) (x : Extractor) → reachable s store x ≡ true
    → Continues s store x ↔ (held_goes_on s store x ≡ true)
unfolding held_goes_on
continues_test s store Fresh reach = ((λ c. refl), (λ e. tt))
continues_test s store (Astray last) reach = ((λ c. refl), (λ e. tt))
continues_test s store (InStep last h) reach = ((λ c. refl), (λ e. tt))
continues_test s store (Walking last zero at) reach = ((λ c. refl), (λ e. tt))
continues_test s store (Walking last (suc h) at) reach = go (place s store last (suc h) at reach)
  where
    go : {at' : ℕ} → Place s store (suc h) at' → CanGoOn s (take (suc h) store) ↔ (can_go_on s (take (suc h) store) ≡ true)
    go (in_packet some-held room begun) =
        goes_on_exactly s (take (suc h) store) (omega (arith, length-take-le (suc h) store room)) (unfinished_sound (suc h) _ begun)
continues_test s store (Leaving last) reach = ((λ c. refl), (λ e. tt))

-- over a store of octets, calls lead exactly to the records that pass both tests
pub reached_by_test : (s : Settings) (x : Extractor) (store : List ℕ) → in_range s ≡ true → s.limit ≤ length store → AllOctets store
    → Reached s x store ↔ (and (reachable s store x) (held_goes_on s store x) ≡ true)
reached_by_test s x store ok room small =
    let exact = reached_exactly s x store ok room small in (
      (λ r. and_both (exact.0 r).0 ((continues_test s store x (exact.0 r).0).0 (exact.0 r).1)),
      (λ e.
          let a = and_true (reachable s store x) (held_goes_on s store x) e in
          exact.1 (a.0, (continues_test s store x a.0).1 a.1)),
    )
