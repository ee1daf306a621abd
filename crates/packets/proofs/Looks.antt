-- What a header says, case by case, with the numbers as the code reads them.
-- Assumes nothing.
use mathlib.Core.Path.{◌≡◌, refl, sym, ap, ◌∙◌}
use mathlib.Core.Logic.{inl, inr}
use mathlib.Core.List.{List, [], ◌∷◌}
use Prim.Native.Nat.{ℕ, zero, suc, ◌+◌, ◌-◌, ◌/◌, ◌≤◌, ◌<◌}
use native.Mathlib.Omega.{arith}
use lib.ListN.{length, take, drop, get_or}
use lib.Dec.{ltb, eqb}
use borrow.Author.Tests.{lt-ltb, le-ltb, ltb-false, eq-eqb, ne_eqb, eqb-true}
use Rattle.octets.specs.Basics.{number, number_from, number_at, part}
use Rattle.words.specs.Fields.{field}
use Rattle.octets.proofs.Choices.{split, eqb_iff, apart, picked}
use Rattle.octets.proofs.Numbers.{number_within}
use Rattle.packets.specs.Packet.{more, damaged, whole, sized, counted, space, encapsulation, header_length, look, apid, OfAKind, packet_version, protocol_of, length_of_length}
use Rattle.packets.proofs.Sizes.{two_halves}

-- where the header is not whole its numbers do not matter
counted_alike : (limit len size m n : ℕ) → (size ≤ len → m ≡ n) → counted limit len size m ≡ counted limit len size n
unfolding counted
counted_alike limit len size m n e =
    split size len (λ h. ap (counted limit len size) (e h)) (λ h. simp (lt-ltb len size h))

-- a header that is not whole, and one that is
pub counted_short : (limit len size total : ℕ) → len < size → counted limit len size total ≡ more
unfolding counted
counted_short limit len size total h = rw (lt-ltb len size h) refl

pub counted_long : (limit len size total : ℕ) → size ≤ len → counted limit len size total ≡ sized limit size total
unfolding counted
counted_long limit len size total h = rw (le-ltb len size h) refl

-- a header that is whole and within its bounds says its total
pub counted_whole : (limit len size total : ℕ) → size ≤ len → size ≤ total → total ≤ limit → counted limit len size total ≡ whole total
unfolding counted sized
counted_whole limit len size total h k m = rw (le-ltb len size h, le-ltb total size k, le-ltb limit total m) refl

module _ (limit : ℕ) (os : List ℕ) where
  pub space_read : space limit os ≡ counted limit (length os) 6 (number_at 2 4 os + 7)
  unfolding space part
  space_read = counted_alike limit (length os) 6 _ _ (λ h. ap (λ (n : ℕ). n + 7) (sym (number_within 2 4 os h)))

  module _ (protocol : ℕ) where
    pub none_read : protocol ≡ 0 → encapsulation limit protocol 0 os ≡ whole 1
    unfolding encapsulation
    none_read h = simp (eq-eqb _ _ h)

    pub none_damaged : (protocol ≡ 0 → ⊥) → encapsulation limit protocol 0 os ≡ damaged 2
    unfolding encapsulation
    none_damaged h = simp (ne_eqb _ _ h)

    pub half_read : (code : ℕ) → (code ≡ 0 → ⊥)
        → encapsulation limit protocol code os ≡ counted limit (length os) (header_length code) (number_at (header_length code / 2) (header_length code / 2) os)
    unfolding encapsulation part
    half_read zero h = absurd (h refl)
    half_read (suc n) h =
        let size : ℕ = header_length (suc n) in
        let e : size / 2 + size / 2 ≡ size = two_halves (suc n) (omega arith) in
        let k : size - size / 2 ≡ size / 2 = omega arith in
        counted_alike limit (length os) size _ _
        (λ l. ap (λ (i : ℕ). number (take i (drop (size / 2) os))) k ∙ sym (number_within (size / 2) (size / 2) os (omega arith)))

pub look_none : (limit : ℕ) (os : List ℕ) → length os ≡ 0 → look limit os ≡ more
unfolding look
look_none limit [] h = refl
look_none limit (o ∷ os) h = absurd (omega arith)

pub look_space : (limit : ℕ) (os : List ℕ) → (length os ≡ 0 → ⊥) → packet_version (get_or os 0 0) ≡ 0
    → look limit os ≡ counted limit (length os) 6 (number_at 2 4 os + 7)
unfolding look
look_space limit [] h v = absurd (h refl)
look_space limit (o ∷ os) h v = rw (eq-eqb _ _ v) (space_read limit (o ∷ os))

pub look_encapsulation : (limit : ℕ) (os : List ℕ) → (length os ≡ 0 → ⊥) → packet_version (get_or os 0 0) ≡ 7
    → look limit os ≡ encapsulation limit (protocol_of (get_or os 0 0)) (length_of_length (get_or os 0 0)) os
unfolding look
look_encapsulation limit [] h v = absurd (h refl)
look_encapsulation limit (o ∷ os) h v = rw v refl

pub look_other : (limit : ℕ) (os : List ℕ) → (length os ≡ 0 → ⊥) → (packet_version (get_or os 0 0) ≡ 0 → ⊥) → (packet_version (get_or os 0 0) ≡ 7 → ⊥)
    → look limit os ≡ damaged 1
unfolding look
look_other limit [] h v w = absurd (h refl)
look_other limit (o ∷ os) h v w = rw (ne_eqb _ _ v, ne_eqb _ _ w) refl

-- a whole header is of one kind or the other
pub look_kind : (limit : ℕ) (os : List ℕ) {l : ℕ} → look limit os ≡ whole l → OfAKind os
unfolding look space counted
look_kind limit [] e = apart (cc)
look_kind limit (o ∷ os) {l} e =
    picked (eqb (packet_version o) 0) _ _ e (λ t q. inl (eqb-true _ _ t, six q))
    (λ t q. picked (eqb (packet_version o) 7) _ _ q (λ u r. inr (eqb-true _ _ u)) (λ u r. apart (cc)))
  where
    six : space limit (o ∷ os) ≡ whole l → 6 ≤ length (o ∷ os)
    six q = picked (ltb (length (o ∷ os)) 6) _ _ q (λ t r. apart (cc)) (λ t r. ltb-false (length (o ∷ os)) 6 t)

-- fewer than two octets of a space packet tell no APID, and none that is idle
pub idle_apid : (os : List ℕ) → packet_version (get_or os 0 0) ≡ 0 → eqb (field (number_at 2 0 os) 0 11) 2047 ≡ eqb (apid os) 2047
unfolding number_at number number_from field
idle_apid [] v = refl
idle_apid (o ∷ []) v =
    let w : packet_version o ≡ 0 = v in
    eqb_iff 0 2047 (field (0 + o) 0 11) 2047 (λ e. absurd (omega arith)) (λ e. absurd (omega arith))
idle_apid (o ∷ p ∷ os) v = ap (λ (n : ℕ). eqb (field n 0 11) 2047) (number_within 2 0 (o ∷ p ∷ os) (omega arith))
