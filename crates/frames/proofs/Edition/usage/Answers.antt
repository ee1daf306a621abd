-- `Edition::usage` meets its contract: in each case the number is the definition's.
use Rattle.std.proofs.Common.{rules}
use Rattle.frames.specs.Edition.{usage}
use Rattle.frames.proofs.Edition.usage.Goals as goal

pub returns-in-Former : goal.returns-in-Former
unfolding usage
returns-in-Former c = search rules

pub returns-in-CycleUnused : goal.returns-in-CycleUnused
unfolding usage
returns-in-CycleUnused c = search rules

pub returns-in-CycleUsed : goal.returns-in-CycleUsed
unfolding usage
returns-in-CycleUsed c = search rules
