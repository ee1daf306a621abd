-- What the calls' own helpers ask and leave.
use Rattle.std.specs.Prelude.{◌≡◌, ℕ, ◌+◌, ◌^◌, ◌≤◌, ◌<◌, List, true, false, length}
use Rattle.octets.specs.Basics.{part, over}
use Rattle.frames.specs.Link.{zone_at, count_width}
use Rattle.frames.specs.Frame.{in_range, frame_length, unused}
use Rattle.frames.specs.declared.Settings.{Settings}
use Rattle.multiplexer.specs.Multiplex.{filled_frame, filled_mux, fits_now, put}
use Rattle.multiplexer.specs.Calls.{left_by}
use Rattle.multiplexer.specs.declared.Mux.{Mux}
use Rattle.multiplexer.specs.declared.Done.{Done}

-- the frame has room, n octets more stay within its zone, and the start is a pointer that may be written: below Z, 2,046 or 2,047
pub record Fills (s : Settings) (m : Mux) (start n : ℕ) (frame : List ℕ) : Type 0 where
  pub settled : in_range s ≡ true
  pub room : frame_length s ≤ length frame
  pub counted : m.count < 2 ^ count_width s.link
  pub pointed : start < 2 ^ 11
  pub used : unused s start ≡ false
  pub inside : m.filled + n ≤ s.zone

-- `laid` is the frame with `os` in its zone behind those that are there
abbrev pub LaidOver : Settings → Mux → List ℕ → List ℕ → List ℕ → Type 0
LaidOver s m os frame laid = laid ≡ over frame (zone_at s.link + m.filled) os

-- the record and the frame once n octets that were laid are counted
pub record Counted (s : Settings) (m : Mux) (start n taken : ℕ) (x : Mux) (laid left : List ℕ) : Type 0 where
  pub mux : x ≡ filled_mux s m start n taken
  pub frame : (os frame : List ℕ) → length os ≡ n → LaidOver s m os frame laid → left ≡ filled_frame s m start os frame

-- what was done and the frame once the next n octets of a packet of `len` were laid: what the rules put
abbrev pub PacketLaid : Settings → Mux → ℕ → ℕ → Done → List ℕ → List ℕ → Type 0
PacketLaid s m n len d laid left =
    (p frame : List ℕ) → length p ≡ len → n ≡ fits_now s m p → LaidOver s m (part m.taken (m.taken + n) p) frame laid
    → left_by d left ≡ put s m p frame
