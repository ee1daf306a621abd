-- What is multiplexed with care is carried, and what is carried is handed over.
-- Assumes nothing.
use mathlib.Core.List.{◌++◌, map}
use Prim.Native.Nat.{◌%◌}
use lib.ListN.{length}
use Rattle.packets.specs.Packet.{end_to_end}
use Rattle.multiplexer.specs.Calls.{to_put}
use Rattle.carries.specs.Careful.{run, filler, offered}
use Rattle.demands.specs.RoundTrip.{OrdersHandedOver, ListHandedOver}
use Rattle.carries.proofs.CarefulRuns.{run_delivers, list_carried}
use Rattle.demands.proofs.Demand3.{hands_over}

pub orders_handed_over : OrdersHandedOver
orders_handed_over s lend store cs lends room formed =
    hands_over s store (run s lend cs).written lends.ranged room (offered s 0 cs) (run_delivers s lend cs lends formed).carries

pub list_handed_over : ListHandedOver
list_handed_over s lend store ps lends room formed =
    hands_over s store (run s lend (map to_put ps)).written lends.ranged room (ps ++ filler s (length (end_to_end ps) % s.zone))
    (list_carried s lend ps lends formed)
