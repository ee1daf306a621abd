-- The tests of what can be wrong with a header, beside what the reader says of it.
-- Assumes nothing.
use mathlib.Core.Path.{◌≡◌, refl, sym, ap, ◌∙◌}
use mathlib.Core.List.{List, [], ◌∷◌}
use mathlib.Core.Bool.{Bool, true, false}
use Prim.Native.Nat.{ℕ, zero, suc, ◌+◌, ◌/◌, ◌≤◌, ◌<◌}
use native.Mathlib.Omega.{arith}
use lib.ListN.{length}
use lib.Dec.{leb, ltb, eqb}
use borrow.Author.Tests.{le-leb, lt-leb, lt-ltb, le-ltb, ltb-true, leb-true, eqb-true, eqb-false, eq-eqb, ne_eqb}
use Rattle.octets.specs.Basics.{and, number, part}
use Rattle.octets.proofs.Choices.{split, apart, and_true, and_false}
use Rattle.octets.proofs.Tests.{test}
use Rattle.packets.specs.Packet.{Look, more, damaged, whole, damage_in, limit_in_range, sized, counted, space, header_length, encapsulation, packet_version, protocol_of, length_of_length, look, size_of}
use Rattle.packets.specs.Damage.{wrong_version, not_idle, states_length, below_its_header, over_limit, applies, Named, DamageNamed, Tells}
use Rattle.packets.proofs.Sizes.{header_most}

-- whether what is seen is damage of this number
names : Look → ℕ → Bool
names more d = false
names (damaged e) d = eqb d e
names (whole total) d = false

names_it : (l : Look) (d : ℕ) → names l d ≡ true → l ≡ damaged d
unfolding names
names_it more d t = apart (cc)
names_it (damaged e) d t = ap damaged (sym (eqb-true d e t))
names_it (whole total) d t = apart (cc)

-- the tests, in the order of their numbers, and what is seen
record Tested (one two three four : Bool) (l : Look) : Type 0 where
  first : one ≡ names l 1
  second : two ≡ names l 2
  third : three ≡ names l 3
  fourth : four ≡ names l 4
  no_other : (d : ℕ) → names l d ≡ true → (1 ≤ d) × (d ≤ 4)

-- where nothing is wrong no test holds, and where one thing is its own test does
unhurt : (l : Look) → ((d : ℕ) → names l d ≡ false) → Tested false false false false l
unhurt l sound = record {
  first = sym (sound 1);
  second = sym (sound 2);
  third = sym (sound 3);
  fourth = sym (sound 4);
  no_other = λ d t. apart (cc (sound d));
}

within : (e d : ℕ) → 1 ≤ e → e ≤ 4 → names (damaged e) d ≡ true → (1 ≤ d) × (d ≤ 4)
unfolding names
within e d low high t = let same : d ≡ e = eqb-true d e t in (omega arith, omega arith)

-- a header of `size` octets, of which so many are there
module _ (limit len size total : ℕ) (room : 7 ≤ limit) (short : size ≤ 8) where
  counted_tested : Tested false false (and (leb size len) (ltb total size)) (and (leb size len) (ltb limit total)) (counted limit len size total)
  unfolding counted sized names
  counted_tested = split size len there not_there
    where
      not_there : len < size → Tested false false (and (leb size len) (ltb total size)) (and (leb size len) (ltb limit total)) (counted limit len size total)
      not_there h = rw (lt-leb size len h, lt-ltb len size h) (unhurt more (λ d. refl))

      there : size ≤ len → Tested false false (and (leb size len) (ltb total size)) (and (leb size len) (ltb limit total)) (counted limit len size total)
      there h =
          rw (le-leb size len h, le-ltb len size h)
          (test (ltb total size)
          (λ t.
          let low : ltb limit total ≡ false = le-ltb limit total (omega (arith, ltb-true total size t)) in
          rw (t, low) (record { first = refl; second = refl; third = refl; fourth = refl; no_other = λ d e. within 3 d (omega arith) (omega arith) e }))
          (λ t. test (ltb limit total)
          (λ u. rw (t, u) (record { first = refl; second = refl; third = refl; fourth = refl; no_other = λ d e. within 4 d (omega arith) (omega arith) e }))
          (λ u. rw (t, u) (unhurt (whole total) (λ d. refl)))))

-- the tests of octets that begin a packet, and what is seen
abbrev Tests : ℕ → List ℕ → Look → Type 0
Tests limit os l = Tested (wrong_version os) (not_idle os) (below_its_header os) (over_limit limit os) l

header_two : (n : ℕ) → leb 2 (header_length (suc n)) ≡ true
unfolding header_length
header_two zero = refl
header_two (suc zero) = refl
header_two (suc (suc n)) = refl

module _ (limit o : ℕ) (os : List ℕ) (room : 7 ≤ limit) where
  -- a space packet states 7 at least, which is not below its header
  space_tests : packet_version o ≡ 0 → Tests limit (o ∷ os) (space limit (o ∷ os))
  unfolding wrong_version not_idle below_its_header over_limit states_length space
  space_tests v =
      let total : ℕ = number (part 4 6 (o ∷ os)) + 7 in
      let enough : ltb total 6 ≡ false = le-ltb total 6 (omega arith) in
      rw (v) (rw (enough, and_false (leb 6 (length (o ∷ os)))) at (counted_tested limit (length (o ∷ os)) 6 total room (omega arith)))

  -- an encapsulation packet, by its length-of-length
  capsule_tests : packet_version o ≡ 7 → (code : ℕ) → length_of_length o ≡ code
      → Tests limit (o ∷ os) (encapsulation limit (protocol_of o) code (o ∷ os))
  unfolding wrong_version not_idle below_its_header over_limit states_length size_of encapsulation header_length names
  capsule_tests v zero e =
      test (eqb (protocol_of o) 0)
      (λ t. rw (v, e, t) (unhurt (whole 1) (λ d. refl)))
      (λ t. rw (v, e, t) (record { first = refl; second = refl; third = refl; fourth = refl; no_other = λ d q. within 2 d (omega arith) (omega arith) q }))
  capsule_tests v (suc n) e =
      let size : ℕ = header_length (suc n) in
      rw (v, e, ne_eqb (suc n) 0 (omega arith), header_two n) (counted_tested limit (length (o ∷ os)) size (number (part (size / 2) size (o ∷ os))) room (header_most (suc n)))

  -- a packet of neither kind
  other_tests : (packet_version o ≡ 0 → ⊥) → (packet_version o ≡ 7 → ⊥) → Tests limit (o ∷ os) (damaged 1)
  unfolding wrong_version not_idle below_its_header over_limit states_length names
  other_tests v w =
      rw (ne_eqb _ _ v, ne_eqb _ _ w)
      (record { first = refl; second = refl; third = refl; fourth = refl; no_other = λ d q. within 1 d (omega arith) (omega arith) q })

-- no octet
none_tests : (limit : ℕ) → Tests limit [] more
unfolding wrong_version not_idle below_its_header over_limit states_length names
none_tests limit = unhurt more (λ d. refl)

tests : (limit : ℕ) (os : List ℕ) → 7 ≤ limit → Tests limit os (look limit os)
unfolding look
tests limit [] room = none_tests limit
tests limit (o ∷ os) room =
    test (eqb (packet_version o) 0)
    (λ t. rw t (space_tests limit o os room (eqb-true _ _ t)))
    (λ t. test (eqb (packet_version o) 7)
    (λ u. rw (t, u) (capsule_tests limit o os room (eqb-true _ _ u) (length_of_length o) refl))
    (λ u. rw (t, u) (other_tests limit o os room (eqb-false _ _ t) (eqb-false _ _ u))))

-- a test holds exactly where what is seen is its damage
applies_exactly : (limit : ℕ) (os : List ℕ) {l : Look} → Tests limit os l → (d : ℕ) → applies limit os d ≡ names l d
unfolding applies
applies_exactly limit os {l} t zero = test (names l 0) (λ e. absurd (omega (arith, t.no_other 0 e))) (λ e. sym e)
applies_exactly limit os t (suc zero) = t.first
applies_exactly limit os t (suc (suc zero)) = t.second
applies_exactly limit os t (suc (suc (suc zero))) = t.third
applies_exactly limit os t (suc (suc (suc (suc zero)))) = t.fourth
applies_exactly limit os {l} t (suc (suc (suc (suc (suc d))))) =
    let n : ℕ = suc (suc (suc (suc (suc d)))) in
    rw (ne_eqb n 1 (omega arith), ne_eqb n 2 (omega arith), ne_eqb n 3 (omega arith), ne_eqb n 4 (omega arith))
    (test (names l n) (λ e. absurd (omega (arith, t.no_other n e))) (λ e. sym e))

pub damage_named : DamageNamed
unfolding limit_in_range names
damage_named limit os ranged = record {
  at_most_one = λ d e p q. alike (names_it (look limit os) d (sym (same d) ∙ p)) (names_it (look limit os) e (sym (same e) ∙ q));
  exactly = λ d. ((λ p. same d ∙ ap (λ l. names l d) p ∙ eq-eqb d d refl), (λ t. names_it (look limit os) d (sym (same d) ∙ t)));
}
  where
    room : 7 ≤ limit
    room = leb-true 7 limit (and_true (leb 7 limit) (leb limit 65542) ranged).0

    same : (d : ℕ) → applies limit os d ≡ names (look limit os) d
    same = applies_exactly limit os (tests limit os room)

    alike : {l : Look} {d e : ℕ} → l ≡ damaged d → l ≡ damaged e → d ≡ e
    alike p q = cc

-- what the reader sees says what is wrong
pub look_tells : (limit : ℕ) (os : List ℕ) → limit_in_range limit ≡ true → Tells limit os (damage_in (look limit os))
unfolding damage_in
look_tells limit os ranged = record { named = λ d t. ap damage_in ((n.exactly d).1 t); none = λ none. go (look limit os) refl none }
  where
    n : Named limit os
    n = damage_named limit os ranged

    go : (l : Look) → look limit os ≡ l → ((d : ℕ) → applies limit os d ≡ false) → damage_in l ≡ 0
    go more e none = refl
    go (damaged d) e none = apart (cc ((n.exactly d).0 e, none d))
    go (whole total) e none = refl
