use Rattle.std.proofs.Common.{◌≡◌, refl, sym, ◌∙◌, get_or, arith}
use borrow.Author.Tests.{eq-eqb, ne_eqb}
use Rattle.packets.specs.Packet.{packet_version, is_idle}
use Rattle.packets.proofs.Looks.{idle_apid}
use Rattle.packets.proofs.is_idle.Goals as goal

pub returns-then-version-eq-SPACE_VERSION : goal.returns-then-version-eq-SPACE_VERSION
unfolding is_idle
returns-then-version-eq-SPACE_VERSION c =
    let os = c.args.start.now in
    let v : packet_version (get_or os 0 0) ≡ 0 = sym c.version.ensures ∙ c.if-version-eq-SPACE_VERSION.true in
    rw (c.field.ensures, c.number.ensures.whole (omega arith), eq-eqb _ _ v) (idle_apid os v)

pub returns : goal.returns
unfolding is_idle
returns c = rw (c.protocol.ensures, ← c.version.ensures, ne_eqb _ _ c.if-version-eq-SPACE_VERSION.false) refl
