-- Sample pass 13, at each edition: zones of one octet with 7 and with 8 bits, and what their pointers say.
-- Assumes nothing.
use Rattle.std.specs.Prelude.{false, ◌≡◌, [], ◌∷◌}
use Rattle.frames.specs.Passes.{signal}
use Rattle.frames.specs.declared.Edition.{Edition}
use Rattle.frames.specs.declared.bits.BitSettings.{BitSettings}
use Rattle.bitstream.specs.Bitstream.{pointer_for, valid_bits, frame_with}

-- W = 1, filled with 55
abbrev one_octet : Edition → BitSettings
one_octet e = record { link = record { spacecraft = 66; channel = 3; trailed = false; edition = e }; width = 1; fill = 85 }

pub record Pass13 (e : Edition) : Type 0 where
  pub seven : pointer_for (one_octet e) 7 ≡ 6
  pub eight : pointer_for (one_octet e) 8 ≡ 16383
  pub seven_back : valid_bits (one_octet e) 6 ≡ 7
  pub eight_back : valid_bits (one_octet e) 16383 ≡ 8
  -- seven bits of FE, then the last of the fill's; all eight; and fill alone
  pub seven_frame : frame_with (one_octet e) 0 7 (254 ∷ []) ≡ 80 ∷ 131 ∷ 0 ∷ 0 ∷ 0 ∷ signal e ∷ 0 ∷ 6 ∷ 255 ∷ []
  pub eight_frame : frame_with (one_octet e) 1 8 (254 ∷ []) ≡ 80 ∷ 131 ∷ 0 ∷ 0 ∷ 1 ∷ signal e ∷ 63 ∷ 255 ∷ 254 ∷ []
  pub fill_frame : frame_with (one_octet e) 2 0 [] ≡ 80 ∷ 131 ∷ 0 ∷ 0 ∷ 2 ∷ signal e ∷ 63 ∷ 254 ∷ 85 ∷ []
