-- Demand 2's round trip: what is multiplexed with care, closed by a flush, and then extracted, is what was offered.
use Rattle.std.specs.Prelude.{ℕ, ◌%◌, ◌≤◌, List, ◌++◌, map, length}
use Rattle.octets.specs.Basics.{All}
use Rattle.packets.specs.Packet.{WellFormed, end_to_end}
use Rattle.frames.specs.declared.Settings.{Settings}
use Rattle.multiplexer.specs.Calls.{Call, to_put}
use Rattle.carries.specs.Careful.{run, filler, offered, Formed}
use Rattle.carries.specs.Demand2List.{Lends}
use Rattle.demands.specs.Demand3.{HandsOver}

-- Any orders: a fresh extractor with any store that is long enough, fed the frames, hands over exactly the packets with the
-- flushes' idle packets in their places, idle ones marked; no frame is refused, and nothing is lost, dropped or damaged.
abbrev pub OrdersHandedOver : Type 0
OrdersHandedOver = (s : Settings) (lend : ℕ → List ℕ) (store : List ℕ) (cs : List Call) → Lends s lend → s.limit ≤ length store
    → All (Formed s) cs → HandsOver s store (run s lend cs).written (offered s 0 cs)

-- A list of packets: that list, and then the flush's idle packet if it wrote one.
abbrev pub ListHandedOver : Type 0
ListHandedOver = (s : Settings) (lend : ℕ → List ℕ) (store : List ℕ) (ps : List (List ℕ)) → Lends s lend → s.limit ≤ length store
    → All (WellFormed s.limit) ps
    → HandsOver s store (run s lend (map to_put ps)).written (ps ++ filler s (length (end_to_end ps) % s.zone))
