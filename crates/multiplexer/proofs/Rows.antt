-- What the rows of a call ask, where none of them holds.
-- Assumes nothing.
use mathlib.Core.Path.{◌≡◌, refl}
use mathlib.Core.List.{List, ◌++◌}
use mathlib.Core.Bool.{Bool, true, false}
use Prim.Native.Nat.{ℕ, ◌≤◌}
use native.Mathlib.Omega.{arith}
use lib.ListN.{length}
use lib.Dec.{leb, ltb}
use borrow.Author.Tests.{le-leb, ltb-false, leb-false, not-false}
use Rattle.octets.specs.Basics.{and, Row, first}
use Rattle.octets.proofs.Choices.{none_holds, or_false}
use Rattle.packets.specs.Packet.{limit_in_range}
use Rattle.frames.specs.Frame.{in_range, frame_length}
use Rattle.frames.specs.declared.Settings.{Settings}
use Rattle.frames.proofs.Settled.{Settled, settled}
use Rattle.multiplexer.specs.Multiplex.{mux_reachable, lent_rows, put_rows, flush_rows, idle_rows}
use Rattle.multiplexer.specs.declared.Mux.{Mux}
use Rattle.multiplexer.proofs.Records.{Passing, passing}

-- what the rows of every call ask of the settings, the room and the record
pub record Lent (s : Settings) (m : Mux) (room : ℕ) : Type 0 where
  pub in_ranges : in_range s ≡ true
  pub enough : frame_length s ≤ room
  pub reachable : mux_reachable s m ≡ true

pub lent_passed : (s : Settings) (m : Mux) (room : ℕ) (rs : List Row) → first (lent_rows s m room ++ rs) ≡ 0 → Lent s m room × (first rs ≡ 0)
lent_passed s m room rs e =
    let a = none_holds 0 _ _ e in
    let b = none_holds 1 _ _ a.1 in
    let c = none_holds 9 _ rs b.1 in
    (record { in_ranges = not-false _ a.0; enough = ltb-false _ _ b.0; reachable = not-false _ c.0 }, c.1)

-- the same with what they say
pub record Accepted (s : Settings) (m : Mux) (room : ℕ) : Type 0 where
  pub lent : Lent s m room
  pub range : Settled s
  pub passes : Passing s m

accepted : (s : Settings) (m : Mux) (room : ℕ) → Lent s m room → Accepted s m room
accepted s m room l =
    let range : Settled s = settled s l.in_ranges in
    record { lent = l; range = range; passes = passing s range m l.reachable }

-- a packet that is put is no shorter than what is taken of it
pub put_passed : (s : Settings) (m : Mux) (p : List ℕ) (room : ℕ) → first (put_rows s m p room) ≡ 0 → Accepted s m room × (m.taken ≤ length p)
unfolding put_rows
put_passed s m p room e =
    let a = lent_passed s m room _ e in
    (accepted s m room a.0, go (ltb 0 m.taken) refl (none_holds 8 _ _ a.1).0)
  where
    go : (t : Bool) → ltb 0 m.taken ≡ t → and t (leb (length p) m.taken) ≡ false → m.taken ≤ length p
    go true x y = omega (arith, leb-false (length p) m.taken y)
    go false x y = omega (arith, ltb-false 0 m.taken x)

-- a flush comes between packets
pub flush_passed : (s : Settings) (m : Mux) (room : ℕ) → first (flush_rows s m room) ≡ 0 → Accepted s m room × (m.taken ≡ 0)
unfolding flush_rows
flush_passed s m room e =
    let a = lent_passed s m room _ e in
    (accepted s m room a.0, omega (arith, ltb-false 0 m.taken (none_holds 8 _ _ a.1).0))

-- an idle zone is the whole zone
pub idle_passed : (s : Settings) (m : Mux) (room : ℕ) → first (idle_rows s m room) ≡ 0 → Accepted s m room × (m.filled ≡ 0)
unfolding idle_rows
idle_passed s m room e =
    let a = lent_passed s m room _ e in
    (accepted s m room a.0, omega (arith, ltb-false 0 m.filled (or_false (ltb 0 m.taken) _ (none_holds 8 _ _ a.1).0).1))

-- a row below that of the settings need not test the limit again
pub limit_known : (s : Settings) → in_range s ≡ true → limit_in_range s.limit ≡ true
unfolding limit_in_range
limit_known s e =
    let w : Settled s = settled s e in
    rw (le-leb 7 s.limit w.limit_least, le-leb s.limit 65542 w.limit_most) refl
