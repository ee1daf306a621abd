-- How many octets so many bits take, and the part of a frame that holds them.
-- Assumes nothing.
use mathlib.Core.Path.{◌≡◌, refl, ◌∙◌}
use mathlib.Core.List.{List, []}
use mathlib.Core.Bool.{Bool, true, false}
use Prim.Native.Nat.{ℕ, ◌*◌, ◌≤◌}
use native.Mathlib.Omega.{arith}
use lib.ListN.{length, take, drop}
use lib.Seq.{take-take}
use lib.Dec.{leb, eqb}
use borrow.Author.Tests.{leb-true, le-leb}
use Rattle.octets.specs.Basics.{and}
use Rattle.octets.proofs.Choices.{leb_iff, and_true}
use Rattle.frames.specs.BitFrame.{bit_frame_length, bit_zone_of, most_bits}
use Rattle.frames.specs.declared.bits.BitSettings.{BitSettings}
use Rattle.bitstream.specs.Bitstream.{octets_for, leading_octets}

-- n bits have room in w octets exactly when the octets that hold them have
pub octets_within : (n w : ℕ) → leb (octets_for n) w ≡ leb n (8 * w)
unfolding octets_for
octets_within n w = leb_iff _ w n (8 * w) (λ h. omega arith) (λ h. omega arith)

pub octets_fit : (n w : ℕ) → n ≤ 8 * w → octets_for n ≤ w
octets_fit n w h = leb-true (octets_for n) w (octets_within n w ∙ le-leb n (8 * w) h)

module _ (s : BitSettings) (n : ℕ) (f : List ℕ) where
  abbrev pub held_in : Bool
  held_in = and (eqb (length f) (bit_frame_length s)) (leb n (most_bits s))

  -- the zone's front is the front of what follows the headers
  pub leading_some : held_in ≡ true → leading_octets s n f ≡ take (octets_for n) (drop 8 f)
  unfolding leading_octets bit_zone_of
  leading_some e =
      let inside : n ≤ most_bits s = leb-true _ _ (and_true (eqb (length f) (bit_frame_length s)) _ e).1 in
      rw e (take-take (octets_for n) s.width (drop 8 f) (octets_fit n s.width inside))

  pub leading_none : held_in ≡ false → leading_octets s n f ≡ []
  unfolding leading_octets
  leading_none e = rw e refl
