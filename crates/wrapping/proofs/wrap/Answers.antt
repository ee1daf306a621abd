use Rattle.std.proofs.Common.{◌≡◌, sym, ap, ℕ, ◌≤◌, length, arith}
use Rattle.octets.specs.Basics.{first}
use Rattle.packets.specs.Packet.{header_length}
use Rattle.wrapping.specs.Wrap.{wrapped_total, wrap_rows, wraps}
use Rattle.wrapping.proofs.Fits.{accepted, part_there}
use Rattle.wrapping.proofs.Wraps.{admitted, wrapping_done, unit_written}
use Rattle.wrapping.proofs.wrap.Goals as goal

-- a unit that is not refused has room for its packet
roomy : (limit protocol extension n room : ℕ) {total : ℕ} → 0 ≡ first (wrap_rows limit protocol extension n total room) → total ≡ wrapped_total protocol n
    → wrapped_total protocol n ≤ room
roomy limit protocol extension n room {total} e t = omega (arith, t, (admitted limit protocol extension n total room (sym e)).roomy)

pub write-requires : goal.write-requires
unfolding wrapped_total
write-requires c =
    let a = c.args in
    omega (arith, ap header_length c.length_of_length_for.ensures, roomy a.limit a.protocol a.extension (length a.unit.now) (length a.out.now) c.in_ok-may_wrap.ensures c.wrapped_total.ensures)

pub unwrap-requires : goal.unwrap-requires
unfolding wrapped_total
unwrap-requires c =
    let a = c.args in
    accepted c.lay.result c.lay.ensures.answer
    (part_there _ _ 0 (length a.unit.now) a.unit.now (omega arith) (omega arith)
    (omega (arith, c.header_length.ensures, ap header_length c.length_of_length_for.ensures, roomy a.limit a.protocol a.extension (length a.unit.now) (length a.out.now) c.in_ok-may_wrap.ensures c.wrapped_total.ensures)))

pub returns : goal.returns
unfolding wraps
returns c =
    let a = c.args in
    cc (
      wrapping_done a.limit a.protocol a.extension a.unit.now a.out.now (rw (← c.wrapped_total.ensures) (sym c.in_ok-may_wrap.ensures)),
      unit_written a.protocol a.extension a.unit.now a.out.now (roomy a.limit a.protocol a.extension (length a.unit.now) (length a.out.now) c.in_ok-may_wrap.ensures c.wrapped_total.ensures),
    )
