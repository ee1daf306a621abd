-- Behind the tests of the settings and of the record, the header's refusal is the call's.
use Rattle.std.proofs.Common.{sym, rules}
use Rattle.frames.specs.BitFrame.{bit_frame_rows, bit_heading_rows, bit_heading}
use Rattle.frames.proofs.bits.Settled.{bits_settled}
use Rattle.octets.proofs.ByNumber.{refused_not_0}
use Rattle.bitstream.specs.Bitstream.{loss_flag, next_reader}
use Rattle.bitstream.proofs.Answers.{read_refused}
use Rattle.bitstream.proofs.Readings.{head_refusal, read_done}
use Rattle.bitstream.proofs.read.Goals as goal

pub returns-in_err-head : goal.returns-in_err-head
unfolding bit_heading bit_heading_rows bit_frame_rows
returns-in_err-head c =
    let a = c.args in
    let refusal = head_refusal a.s a.x a.frame.now _ c.in_err-head.ensures (cc) (cc) in
    let refused = read_refused a.s a.x a.frame.now _ refusal (refused_not_0 c.in_err-head.field-0.0) in
    search rules

pub valid_bits-bits-requires : goal.valid_bits-bits-requires
valid_bits-bits-requires c = (bits_settled c.args.s (cc)).width_most

pub returns : goal.returns
unfolding loss_flag next_reader bit_heading bit_heading_rows bit_frame_rows
returns c =
    let a = c.args in
    let refusal = head_refusal a.s a.x a.frame.now _ c.in_ok-head.ensures (cc) (cc) in
    rw (c.untold-loss.ensures, c.valid_bits-bits.ensures)
    (read_done a.s a.x a.frame.now _ c.in_ok-head.ensures (sym refusal))
