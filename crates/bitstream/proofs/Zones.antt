-- The zone that n bits and the fill make: its length, its octets and its bits.
-- Assumes nothing.
use mathlib.Core.Path.{◌≡◌, refl, ◌∙◌}
use mathlib.Core.List.{List, ◌∷◌, ◌++◌}
use Prim.Native.Nat.{ℕ, suc, ◌+◌, ◌-◌, ◌*◌, ◌/◌, ◌%◌, ◌≤◌, ◌<◌}
use native.Mathlib.Omega.{arith}
use lib.ListN.{length, take, get_or, replicate, length-append, length-replicate, get_or-replicate, get_or-append}
use lib.Seq.{length-take-le, get_or-take, get_or-append-add}
use lib.Dec.{ltb}
use borrow.Author.Tests.{lt-ltb, le-ltb, eq-eqb, ne_eqb}
use Rattle.octets.specs.Basics.{AllOctets, pick}
use Rattle.words.specs.Fields.{read}
use Rattle.octets.proofs.Choices.{split, leb_iff}
use Rattle.octets.proofs.Fronts.{octet_lt}
use Rattle.frames.specs.declared.bits.BitSettings.{BitSettings}
use Rattle.bitstream.specs.Bitstream.{octets_for, mixed, last_octet, zone_with, bit_at, bit_place}
use Rattle.bitstream.proofs.Bits.{mixed_bit}

module _ (s : BitSettings) (n : ℕ) (bits : List ℕ) where
  -- the zone where the bits end with an octet, and where they end within one
  pub zone_whole : n % 8 ≡ 0 → zone_with s n bits ≡ take (n / 8) bits ++ replicate (s.width - n / 8) s.fill
  unfolding zone_with last_octet octets_for
  zone_whole e =
      let h : (n + 7) / 8 ≡ n / 8 = omega arith in
      rw (eq-eqb _ _ e, h) refl

  pub zone_mixed : 0 < n % 8
      → zone_with s n bits ≡ take (n / 8) bits ++ (mixed (n % 8) (get_or bits (n / 8) 0) s.fill ∷ replicate (s.width - (n / 8 + 1)) s.fill)
  unfolding zone_with last_octet octets_for
  zone_mixed e =
      let h : (n + 7) / 8 ≡ n / 8 + 1 = omega arith in
      rw (ne_eqb (n % 8) 0 (λ z. omega arith), h) refl

module _ (s : BitSettings) (n : ℕ) (bits : List ℕ) (inside : octets_for n ≤ s.width) (lent : octets_for n ≤ length bits) where
  pub length_front : length (take (n / 8) bits) ≡ n / 8
  unfolding octets_for
  length_front = length-take-le (n / 8) bits (omega arith)

  pub length_zone : length (zone_with s n bits) ≡ s.width
  unfolding octets_for
  length_zone =
      split (n % 8) 0
      (λ e. rw (zone_whole s n bits (omega arith)) (simp (length-append, length-replicate) (omega (arith, length_front))))
      (λ e. rw (zone_mixed s n bits e) (simp (length-append, length-replicate) (omega (arith, length_front))))

  -- the octets of the zone, one by one
  octet_front : (j : ℕ) → j < n / 8 → get_or (zone_with s n bits) j 0 ≡ get_or bits j 0
  unfolding zone_with
  octet_front j h =
      get_or-append (take (n / 8) bits) _ 0 j (omega (arith, length_front)) ∙ get_or-take (n / 8) bits j 0 h

  -- what stands behind the whole octets
  behind : (rest : List ℕ) (j k : ℕ) → j ≡ n / 8 + k → get_or (take (n / 8) bits ++ rest) j 0 ≡ get_or rest k 0
  behind rest j k e =
      let at : j ≡ length (take (n / 8) bits) + k = omega (arith, length_front) in
      rw at (get_or-append-add (take (n / 8) bits) rest k 0)

  octet_last : 0 < n % 8 → get_or (zone_with s n bits) (n / 8) 0 ≡ mixed (n % 8) (get_or bits (n / 8) 0) s.fill
  octet_last h =
      rw (zone_mixed s n bits h)
      (behind (mixed (n % 8) (get_or bits (n / 8) 0) s.fill ∷ replicate (s.width - (n / 8 + 1)) s.fill) (n / 8) 0 (omega arith))

  octet_rest : (j : ℕ) → octets_for n ≤ j → j < s.width → get_or (zone_with s n bits) j 0 ≡ s.fill
  unfolding octets_for
  octet_rest j h k =
      split (n % 8) 0
      (λ e. rw (zone_whole s n bits (omega arith))
      (behind (replicate (s.width - n / 8) s.fill) j (j - n / 8) (omega arith) ∙ get_or-replicate (s.width - n / 8) (j - n / 8) s.fill 0 (omega arith)))
      (λ e. rw (zone_mixed s n bits e)
      (behind (mixed (n % 8) (get_or bits (n / 8) 0) s.fill ∷ replicate (s.width - (n / 8 + 1)) s.fill) j (suc (j - (n / 8 + 1))) (omega arith)
      ∙ get_or-replicate (s.width - (n / 8 + 1)) (j - (n / 8 + 1)) s.fill 0 (omega arith)))

  -- THE ZONE, BIT BY BIT: the first n are those given, and each other is the fill octet's at the same place
  pub zone_bit : AllOctets bits → (i : ℕ) → i < 8 * s.width
      → bit_at (zone_with s n bits) i ≡ pick (ltb i n) (bit_at bits i) (read (bit_place (i % 8)) s.fill)
  unfolding bit_at octets_for
  zone_bit octets i h =
      split (n / 8) (i / 8)
      (λ past. split (octets_for n) (i / 8)
      (λ beyond. rw (le-ltb i n (omega arith), octet_rest (i / 8) beyond (omega arith)) refl)
      (λ ends. last_bit ends past))
      (λ whole. rw (lt-ltb i n (omega arith), octet_front (i / 8) whole) refl)
    where
      last_bit : i / 8 < octets_for n → n / 8 ≤ i / 8
          → read (bit_place (i % 8)) (get_or (zone_with s n bits) (i / 8) 0)
          ≡ pick (ltb i n) (read (bit_place (i % 8)) (get_or bits (i / 8) 0)) (read (bit_place (i % 8)) s.fill)
      last_bit ends past =
          let e : i / 8 ≡ n / 8 = omega arith in
          let t : ltb i n ≡ ltb (i % 8) (n % 8) = leb_iff (suc i) n (suc (i % 8)) (n % 8) (λ k. omega arith) (λ k. omega arith) in
          rw (e, t, octet_last (omega arith))
          (mixed_bit (n % 8) (get_or bits (n / 8) 0) s.fill (omega arith) (octet_lt bits octets (n / 8)) (i % 8) (omega arith))
