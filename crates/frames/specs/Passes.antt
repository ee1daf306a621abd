-- The header parts of sample passes 5 and 13, at each edition: which pointers are refused.
use Rattle.std.specs.Prelude.{◌≡◌, ℕ, false, List, [], ◌∷◌}
use Rattle.octets.specs.Basics.{first}
use Rattle.frames.specs.Frame.{frame_rows}
use Rattle.frames.specs.BitFrame.{bit_frame_rows}
use Rattle.frames.specs.declared.Edition.{Edition}
use Rattle.frames.specs.declared.Edition.TheVariants.{Former, CycleUnused, CycleUsed}
use Rattle.frames.specs.declared.Settings.{Settings}
use Rattle.frames.specs.declared.bits.BitSettings.{BitSettings}

-- the signalling octet of a frame whose count is small
abbrev pub signal : Edition → ℕ
signal Former = 0x00
signal CycleUnused = 0x00
signal CycleUsed = 0x40

-- Z = 10, M = 1,024
abbrev pub channel_3 : Edition → Settings
channel_3 e = record { link = record { spacecraft = 66; channel = 3; trailed = false; edition = e }; zone = 10; limit = 1024; fill = 0x55 }

-- the sample's second frame with another pointer
abbrev pub pointing : Edition → ℕ → List ℕ
pointing e p =
    0x50 ∷ 0x83 ∷ 0x00 ∷ 0x00 ∷ 0x01 ∷ signal e ∷ 0x00 ∷ p
    ∷ 0x11 ∷ 0x22 ∷ 0x33 ∷ 0xE1 ∷ 0x07 ∷ 0x55 ∷ 0x55 ∷ 0x55 ∷ 0x55 ∷ 0x55 ∷ []

pub record Pass5 (e : Edition) : Type 0 where
  pub nine_entered : first (frame_rows (channel_3 e) (pointing e 9)) ≡ 0
  pub ten_refused : first (frame_rows (channel_3 e) (pointing e 10)) ≡ 7

-- W = 1
abbrev pub one_octet : Edition → BitSettings
one_octet e = record { link = record { spacecraft = 66; channel = 3; trailed = false; edition = e }; width = 1; fill = 0x55 }

-- a frame of one octet with these two octets before the zone
abbrev pub bits_pointing : Edition → ℕ → ℕ → List ℕ
bits_pointing e high low = 0x50 ∷ 0x83 ∷ 0x00 ∷ 0x00 ∷ 0x00 ∷ signal e ∷ high ∷ low ∷ 0x71 ∷ []

pub record Pass13 (e : Edition) : Type 0 where
  pub six_read : first (bit_frame_rows (one_octet e) (bits_pointing e 0x00 0x06)) ≡ 0
  pub seven_refused : first (bit_frame_rows (one_octet e) (bits_pointing e 0x00 0x07)) ≡ 7
  pub all_valid_read : first (bit_frame_rows (one_octet e) (bits_pointing e 0x3F 0xFF)) ≡ 0
