-- A full zone makes the next frame's empty one; else the octets are counted in.
use Rattle.std.proofs.Common.{arith}
use Rattle.frames.specs.Frame.{head, head_rows}
use Rattle.frames.proofs.Settled.{settled}
use Rattle.multiplexer.proofs.Laying.{head_accepted, counted_more, counted_full}
use Rattle.multiplexer.proofs.count_in.Goals as goal

pub unwrap-requires : goal.unwrap-requires
unfolding head_rows
unwrap-requires c = head_accepted c.write_head.result c.requires c.write_head.ensures.value

pub overflow_add-s : goal.overflow_add-s
overflow_add-s c = omega (arith, (settled c.args.s c.requires.settled).zone_most)

pub returns-then-m-n : goal.returns-then-m-n
unfolding head head_rows
returns-then-m-n c =
    rw (c.next_count.ensures, c.begin.ensures)
    (counted_full c.args.taken c.requires c.if-m-n.true c.write_head.ensures.value c.write_head.ensures.buf_after c.end_frame.ensures)

pub returns : goal.returns
returns c = counted_more c.args.taken c.if-m-n.false
