use Rattle.std.proofs.Common.{◌≡◌, sym, ap, ◌∙◌}
use Rattle.packets.specs.Packet.{whole, look}
use Rattle.packets.specs.Header.{seen}
use Rattle.packets.proofs.Looks.{look_kind}
use Rattle.packets.proofs.read_header.Goals as goal

pub tell-requires : goal.tell-requires
unfolding seen
tell-requires c =
    let a = c.args in
    let e : look a.limit a.start.now ≡ whole c.in-Whole.total = sym c.read_length.ensures ∙ ap seen c.in-Whole.is in
    look_kind a.limit a.start.now e
