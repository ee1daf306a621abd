-- `run::Run::spend`: each step that goes on leaves fewer to take.
use Rattle.aosread.proofs.Steps.{left}
use Rattle.aosread.proofs.run.Run.spend.Given as goal

abbrev pub decreases-loop-step : goal.decreases-loop-step
decreases-loop-step g l = left l.self.settings l.self.extractor
