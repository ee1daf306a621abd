-- `relay::route` meets its contract: limit and table are looked at first, and then the packet's header.
use Rattle.std.proofs.Common.{◌≡◌, Ok, rules}
use Rattle.packets.specs.Header.{answer, reading}
use Rattle.relay.specs.Route.{routes}
use Rattle.relay.proofs.Headers.{turned_away, no_table}
use Rattle.relay.proofs.route.Goals as goal

pub returns-in_err-header : goal.returns-in_err-header
unfolding routes
returns-in_err-header c = search (rules, turned_away)

pub returns-then-not-is_table : goal.returns-then-not-is_table
unfolding routes
returns-then-not-is_table c =
    let a = c.args in
    let read : answer (Ok c.in_ok-header.header) ≡ reading a.limit a.packet.now = search rules in
    let none = no_table a.limit a.t a.packet.now a.out.now c.in_ok-header.header read in
    search rules
