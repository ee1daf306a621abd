-- Where no row holds, the frame has room for both headers and the zone.
use Rattle.std.proofs.Common.{sym, arith, rules}
use Rattle.octets.proofs.ByNumber.{refused_not_0}
use Rattle.frames.specs.BitFrame.{bit_head, bit_head_rows}
use Rattle.frames.proofs.bits.Settled.{bits_settled}
use Rattle.bitstream.proofs.Answers.{write_refused}
use Rattle.bitstream.proofs.Sizes.{octets_fit}
use Rattle.bitstream.proofs.Writes.{allowed, headed, framed, write_done}
use Rattle.bitstream.proofs.write.Goals as goal

pub returns-in_err-may_write : goal.returns-in_err-may_write
returns-in_err-may_write c =
    let a = c.args in
    let some = refused_not_0 c.in_err-may_write.field-0.0 in
    let refused = write_refused a.s a.w a.n a.bits.now a.frame.now _ c.in_err-may_write.ensures some in
    search rules

pub pointer_for-requires : goal.pointer_for-requires
pointer_for-requires c =
    let given = allowed _ _ _ _ _ (sym c.in_ok-may_write.ensures) in
    record {
      n_bound = octets_fit c.args.n c.args.s.width given.inside;
      width_le_most_width = (bits_settled c.args.s given.in_range).width_most;
    }

pub lay_bits-requires : goal.lay_bits-requires
lay_bits-requires c =
    let given = allowed _ _ _ _ _ (sym c.in_ok-may_write.ensures) in
    record {
      inside = octets_fit c.args.n c.args.s.width given.inside;
      lent = given.lent_enough;
      room = omega (arith, c.write_head.auto.buf, given.room_enough);
    }

pub overflow_add-s : goal.overflow_add-s
overflow_add-s c =
    let given = allowed _ _ _ _ _ (sym c.in_ok-may_write.ensures) in
    omega (arith, (bits_settled c.args.s given.in_range).width_most)

pub returns : goal.returns
unfolding bit_head bit_head_rows
returns c =
    let a = c.args in
    let none = sym c.in_ok-may_write.ensures in
    let given = allowed _ _ _ _ _ none in
    let head =
    headed a.s a.w a.n a.bits.now a.frame.now given _ _
    (rw c.pointer_for.ensures at c.write_head.ensures.value)
    (rw c.pointer_for.ensures at c.write_head.ensures.buf_after) in
    write_done a.s a.w a.n a.bits.now a.frame.now _ _ none c.next_count.ensures
    (framed a.s a.w a.n a.bits.now a.frame.now given _ _ _ head c.lay_bits.ensures c.end_frame.ensures)
