-- Symbol by symbol.
use Rattle.repair.specs.Code.{four}
use Rattle.repair.specs.Values.{generator_times}
use Rattle.repair.proofs.generator_times.Goals as goal

pub returns : goal.returns
unfolding generator_times four
returns c = rw (c.power-2.ensures.power, c.power.ensures.power, c.power-cubed.ensures.power)
