-- The remainder of the six symbols, with four zeros behind them.
use Rattle.repair.specs.Code.{checks}
use Rattle.repair.proofs.checks.Goals as goal

pub returns : goal.returns
unfolding checks
returns c = c.remainder.ensures
