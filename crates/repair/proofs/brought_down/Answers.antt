-- One step of the division, of numbers.
use Rattle.repair.specs.Values.{brought_down}
use Rattle.repair.proofs.brought_down.Goals as goal

pub returns : goal.returns
unfolding brought_down
returns c = rw c.multiple.ensures
