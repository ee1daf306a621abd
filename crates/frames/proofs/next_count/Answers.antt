-- `next_count` meets its contract: what wraps at the word's width wraps at the wheel's.
use Rattle.std.proofs.Common.{arith}
use Rattle.frames.specs.Link.{count_width}
use Rattle.frames.proofs.Wheel.{next_wraps, count_narrow}
use Rattle.frames.proofs.next_count.Goals as goal

pub returns : goal.returns
returns c =
    let l = c.args.l in
    rw c.wheel_of.ensures (next_wraps 32 (count_width l) c.args.count (omega (arith, count_narrow l)))
