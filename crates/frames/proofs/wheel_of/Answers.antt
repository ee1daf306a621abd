-- `wheel_of` meets its contract: one bit moved up stands for the power.
use Rattle.words.proofs.Fields.{one_up}
use Rattle.frames.specs.Link.{count_width}
use Rattle.frames.proofs.Wheel.{count_narrow}
use Rattle.frames.proofs.wheel_of.Goals as goal

pub overflow_shl-result : goal.overflow_shl-result
overflow_shl-result c = rw c.count_width.ensures (count_narrow c.args.l)

pub returns : goal.returns
returns c = let l = c.args.l in rw c.count_width.ensures (one_up 32 (count_width l) (count_narrow l))
