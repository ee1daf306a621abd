-- Which records calls lead to.
use Rattle.std.specs.Prelude.{◌↔◌, ◌≡◌, ℕ, List, true, length}
use Rattle.octets.specs.Basics.{AllOctets, first}
use Rattle.frames.specs.Frame.{in_range}
use Rattle.frames.specs.declared.Settings.{Settings}
use Rattle.multiplexer.specs.Multiplex.{begun, mux_reachable}
use Rattle.multiplexer.specs.Calls.{Call, to_put, to_flush, to_idle, call_rows, answer}
use Rattle.multiplexer.specs.declared.Mux.{Mux}

-- a packet that is lent is made of octets
abbrev pub OctetsLent : Call → Type 0
OctetsLent (to_put p) = AllOctets p
OctetsLent to_flush = Unit {0}
OctetsLent to_idle = Unit {0}

-- any calls, from the first record on, refused or not, with any packets and any frames
pub data Reached (s : Settings) : Mux → Type 0 where
  begins : Reached s begun
  calls : {m : Mux} (c : Call) (frame : List ℕ) → OctetsLent c → AllOctets frame → Reached s m → Reached s (answer s m c frame).mux

-- Every record that a call hands back, but for a refusal, passes the test for refusal 10.
abbrev pub KeepsToTheTest : Type 0
KeepsToTheTest = (s : Settings) (m : Mux) (c : Call) (frame : List ℕ) → first (call_rows s m c (length frame)) ≡ 0
    → mux_reachable s (answer s m c frame).mux ≡ true

-- Calls lead exactly to the records that pass the test.
abbrev pub ReachesAll : Type 0
ReachesAll = (s : Settings) → in_range s ≡ true → (m : Mux) → Reached s m ↔ (mux_reachable s m ≡ true)
