use Rattle.std.proofs.Common.{◌≡◌, sym, ap, ◌∙◌, ℕ, List, ◌+◌, ◌-◌, ◌≤◌, length, arith}
use borrow.Author.Tests.{le-leb}
use Rattle.octets.specs.Basics.{first}
use Rattle.packets.specs.Packet.{header_length}
use Rattle.wrapping.specs.Idle.{idle_packet_rows}
use Rattle.wrapping.proofs.Fits.{accepted}
use Rattle.wrapping.proofs.Idles.{idle_size, idle_admitted, idle_written}
use Rattle.wrapping.proofs.front.write_idle.Goals as goal

-- a packet that is not refused is one, and fits
passed : (d : List ℕ) (at r : ℕ) {room : ℕ} → 0 ≡ first (idle_packet_rows r room) → room ≡ length d - at → (1 ≤ r) × (at + r ≤ length d)
passed d at r e s = idle_admitted d at r (sym (e ∙ ap (λ (room : ℕ). first (idle_packet_rows r room)) s))

pub write-requires : goal.write-requires
write-requires c =
    let a = c.args in
    let ok = passed a.out.now a.at a.r c.in_ok-may_write_idle.ensures c.rest.ensures in
    omega (arith, ap header_length c.idle_length_of_length.ensures, idle_size a.r ok.0, ok.1)

pub overflow_add-at : goal.overflow_add-at
overflow_add-at c =
    let a = c.args in
    let ok = passed a.out.now a.at a.r c.in_ok-may_write_idle.ensures c.rest.ensures in
    omega (arith, c.header_length-size.ensures, ap header_length c.idle_length_of_length.ensures, idle_size a.r ok.0, ok.1)

pub overflow_sub-r : goal.overflow_sub-r
overflow_sub-r c =
    let a = c.args in
    let ok = passed a.out.now a.at a.r c.in_ok-may_write_idle.ensures c.rest.ensures in
    omega (arith, c.header_length-size.ensures, ap header_length c.idle_length_of_length.ensures, idle_size a.r ok.0)

pub unwrap-requires : goal.unwrap-requires
unwrap-requires c =
    let a = c.args in
    let ok = passed a.out.now a.at a.r c.in_ok-may_write_idle.ensures c.rest.ensures in
    accepted c.fill.result c.fill.ensures.answer
    (le-leb _ _ (omega (arith, c.header_length-size.ensures, ap header_length c.idle_length_of_length.ensures, idle_size a.r ok.0, ok.1)))

pub returns-clause-out_after : goal.returns-clause-out_after
returns-clause-out_after c =
    let a = c.args in
    let ok = passed a.out.now a.at a.r c.in_ok-may_write_idle.ensures c.rest.ensures in
    rw (c.fill.ensures.left, c.write.ensures, c.header_length-size.ensures, c.idle_length_of_length.ensures)
    (idle_written a.out.now a.at a.fill a.r ok.0 ok.1)
