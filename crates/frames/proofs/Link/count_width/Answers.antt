-- `Link::count_width` meets its contract: the cycle has four bits at most.
use Rattle.std.proofs.Common.{arith, rules}
use Rattle.frames.specs.Link.{count_width}
use Rattle.frames.proofs.Signals.{cycle_narrow}
use Rattle.frames.proofs.Link.count_width.Goals as goal

pub overflow_add-result : goal.overflow_add-result
overflow_add-result c = record { fits = omega (arith, c.cycle_width.ensures, cycle_narrow c.args.self.edition) }

pub returns : goal.returns
unfolding count_width
returns c = search rules
