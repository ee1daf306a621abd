-- `relay::by_header` meets its contract, answer by answer.
use Rattle.std.proofs.Common.{ap, ◌∙◌}
use Rattle.packets.specs.Header.{version_of}
use Rattle.relay.specs.Route.{routes}
use Rattle.relay.proofs.Headers.{no_packet, torn, to_nowhere, by_apid}
use Rattle.relay.proofs.by_header.Goals as goal

pub returns-in_default : goal.returns-in_default
unfolding routes
returns-in_default c =
    let a = c.args in
    λ limit e. no_packet limit a.t.now a.packet.now a.out.now c.requires a.header c.in_default.not-Whole e c.header_damage.ensures

pub returns-then-total-packet : goal.returns-then-total-packet
unfolding routes
returns-then-total-packet c =
    let a = c.args in
    rw c.refused.ensures (λ limit e. torn limit a.packet.now a.header c.in-Whole.is e a.t.now a.out.now c.requires c.if-total-packet.true)

pub returns-in-Encapsulation : goal.returns-in-Encapsulation
unfolding routes version_of
returns-in-Encapsulation c =
    let a = c.args in
    λ limit e. to_nowhere limit a.packet.now a.header c.in-Whole.is e a.t.now a.out.now c.requires c.if-total-packet.false (ap version_of c.in-Encapsulation.is)

pub returns-in-Space : goal.returns-in-Space
unfolding version_of
returns-in-Space c =
    let a = c.args in
    λ limit e.
    c.send.ensures
    ∙ by_apid limit a.packet.now a.header c.in-Whole.is e a.t.now a.out.now c.requires c.if-total-packet.false (ap version_of c.in-Space.is)
