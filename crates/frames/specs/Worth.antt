-- What the trailer is worth to a station: a frame that was sent with its trailer right is refused by 13 where it comes with these wrong bits,
-- wherever they lie, also in the trailer, and whatever channel the frame was sent on.
use Rattle.std.specs.Prelude.{◌≡◌, ℕ, ◌%◌, ◌≤◌, Bool, true, List, length, ◌≢◌}
use Rattle.octets.specs.Basics.{Row, first}
use Rattle.trailer.specs.WrongBits.{Received, Burst, wrong_bits}
use Rattle.frames.specs.Frame.{in_range, frame_length, frame_rows}
use Rattle.frames.specs.BitFrame.{bits_in_range, bit_frame_length, bit_frame_rows}
use Rattle.frames.specs.declared.Settings.{Settings}
use Rattle.frames.specs.declared.bits.BitSettings.{BitSettings}

-- which wrong bits are seen: all within sixteen in a row; an odd number of them; one, two or three
pub record Seen (rows : List ℕ → List Row) (sent came : List ℕ) : Type 0 where
  pub burst : (sent ≢ came) → Burst 16 sent came → first (rows came) ≡ 13
  pub odd : wrong_bits sent came % 2 ≡ 1 → first (rows came) ≡ 13
  pub few : (sent ≢ came) → wrong_bits sent came ≤ 3 → first (rows came) ≡ 13

-- so it is on a channel with trailers, in range, for a frame of its length
abbrev pub SeenBy : Bool → Bool → ℕ → (List ℕ → List Row) → Type 0
SeenBy trailed ranged octets rows =
    trailed ≡ true → ranged ≡ true → (sent came : List ℕ) → Received sent came → length sent ≡ octets → Seen rows sent came

pub record Worth : Type 0 where
  pub packets : (s : Settings) → SeenBy s.link.trailed (in_range s) (frame_length s) (frame_rows s)
  pub bits : (s : BitSettings) → SeenBy s.link.trailed (bits_in_range s) (bit_frame_length s) (bit_frame_rows s)
