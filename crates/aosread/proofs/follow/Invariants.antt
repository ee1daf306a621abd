-- `follow`: each record of a run that goes on leaves fewer to take.
use Rattle.runfile.proofs.Ends.{left}
use Rattle.aosread.proofs.follow.Given as goal

abbrev pub decreases-loop-progress : goal.decreases-loop-progress
decreases-loop-progress g l = left l.progress
