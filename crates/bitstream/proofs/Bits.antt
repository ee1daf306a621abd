-- The bits of an octet that is mixed from two, and octets by their bits.
-- Assumes nothing.
use mathlib.Core.Path.{◌≡◌, sym, ap, ◌∙◌}
use Prim.Native.Nat.{ℕ, ◌+◌, ◌-◌, ◌/◌, ◌%◌, ◌^◌, ◌≤◌, ◌<◌}
use native.Mathlib.Nat.{div-one}
use native.Mathlib.Omega.{arith}
use lib.Dec.{ltb}
use lib.Pow.{mod-mod-pow}
use lib.Pow as pow
use borrow.Author.Tests.{lt-ltb, le-ltb}
use Rattle.octets.specs.Basics.{pick}
use Rattle.words.specs.Fields.{field, read}
use Rattle.octets.proofs.Choices.{split}
use Rattle.words.proofs.Fields.{placed_read, placed_above, placed_lt}
use Rattle.bitstream.specs.Bitstream.{mixed, bit_place}

-- a field that lies in the low bits of a word goes by these alone
field_low : (word low place width : ℕ) → width + place ≤ low → field (word % 2 ^ low) place width ≡ field word place width
unfolding field
field_low word low place width h =
    let e : low ≡ low - (width + place) + (width + place) = omega arith in
    sym (pow.field (word % 2 ^ low) width place)
    ∙ ap (λ (k : ℕ). word % 2 ^ k % 2 ^ (width + place) / 2 ^ place) e
    ∙ ap (λ (m : ℕ). m / 2 ^ place) (mod-mod-pow word (low - (width + place)) (width + place))
    ∙ pow.field word width place

module _ (k bits fill : ℕ) (within : k ≤ 8) (octet : bits < 256) where
  -- the octet is one
  pub mixed_lt : mixed k bits fill < 256
  unfolding mixed field
  mixed_lt =
      omega (
        arith,
        placed_lt bits 0 (8 - k) fill (omega arith) (omega arith),
        placed_above bits 0 (8 - k) fill (omega arith) (omega arith) 8 56 (omega arith),
      )

  low_bits : mixed k bits fill % 2 ^ (8 - k) ≡ fill % 2 ^ (8 - k)
  unfolding mixed field
  low_bits = rw div-one at (placed_read bits 0 (8 - k) fill (omega arith) (omega arith))

  high_bits : (i : ℕ) → i < k → field (mixed k bits fill) (7 - i) 1 ≡ field bits (7 - i) 1
  unfolding mixed
  high_bits i h = placed_above bits 0 (8 - k) fill (omega arith) (omega arith) (7 - i) 1 (omega arith)

  -- each of its bits is one of the two octets', at the same place
  pub mixed_bit : (i : ℕ) → i < 8 → read (bit_place i) (mixed k bits fill) ≡ pick (ltb i k) (read (bit_place i) bits) (read (bit_place i) fill)
  mixed_bit i h =
      split k i
      (λ after. rw (le-ltb i k after)
      (sym (field_low (mixed k bits fill) (8 - k) (7 - i) 1 (omega arith))
      ∙ ap (λ (m : ℕ). field m (7 - i) 1) low_bits
      ∙ field_low fill (8 - k) (7 - i) 1 (omega arith)))
      (λ before. rw (lt-ltb i k before) (high_bits i before))

-- ---- the bits say all
