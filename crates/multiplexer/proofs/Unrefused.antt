-- Calls that no row refuses.
-- Assumes nothing.
use mathlib.Core.Path.{◌≡◌, refl}
use mathlib.Core.List.{List}
use Prim.Native.Nat.{ℕ, ◌<◌}
use native.Mathlib.Omega.{arith}
use lib.ListN.{length}
use lib.Dec.{ltb}
use borrow.Author.Tests.{lt-leb, le-ltb}
use Rattle.octets.specs.Basics.{first}
use Rattle.octets.proofs.Choices.{and_false}
use Rattle.packets.specs.Packet.{WellFormed}
use Rattle.packets.proofs.Readings.{formed_test}
use Rattle.frames.specs.Frame.{frame_length}
use Rattle.frames.specs.declared.Settings.{Settings}
use Rattle.multiplexer.specs.Multiplex.{put_rows, flush_rows, idle_rows}
use Rattle.multiplexer.specs.declared.Mux.{Mux}
use Rattle.multiplexer.proofs.Rows.{Lent}

module _ (s : Settings) (m : Mux) (room : ℕ) (l : Lent s m room) where
  -- a put where octets of the packet are left and it is well formed
  pub put_unrefused : (p : List ℕ) → m.taken < length p → WellFormed s.limit p → first (put_rows s m p room) ≡ 0
  unfolding first put_rows
  put_unrefused p h w =
      rw (
        l.in_ranges,
        le-ltb room (frame_length s) l.enough,
        l.reachable,
        lt-leb (length p) m.taken h,
        and_false (ltb 0 m.taken),
        formed_test s.limit p w,
      )
      refl

  -- a flush where no packet is being put
  pub flush_unrefused : m.taken ≡ 0 → first (flush_rows s m room) ≡ 0
  unfolding first flush_rows
  flush_unrefused h =
      rw (l.in_ranges, le-ltb room (frame_length s) l.enough, l.reachable, le-ltb 0 m.taken (omega arith)) refl

  -- an idle zone where no packet is being put and no zone is begun
  pub idle_unrefused : m.taken ≡ 0 → m.filled ≡ 0 → first (idle_rows s m room) ≡ 0
  unfolding first idle_rows
  idle_unrefused h k =
      rw (
        l.in_ranges,
        le-ltb room (frame_length s) l.enough,
        l.reachable,
        le-ltb 0 m.taken (omega arith),
        le-ltb 0 m.filled (omega arith),
      )
      refl
