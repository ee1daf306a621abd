-- `Edition::cycle_width` meets its contract: a usage flag is 1 at most.
use Rattle.std.proofs.Common.{arith, rules}
use Rattle.frames.specs.Edition.{cycle_width}
use Rattle.frames.proofs.Signals.{usage_small}
use Rattle.frames.proofs.Edition.cycle_width.Goals as goal

pub overflow_mul-result : goal.overflow_mul-result
overflow_mul-result c = record { fits = omega (arith, c.usage.ensures, usage_small c.args.self) }

pub returns : goal.returns
unfolding cycle_width
returns c = search rules
