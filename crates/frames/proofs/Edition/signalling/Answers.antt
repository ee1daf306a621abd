-- `Edition::signalling` meets its contract: the fields are put in one after the other.
use Rattle.std.proofs.Common.{rules}
use Rattle.frames.specs.Edition.{signalling}
use Rattle.frames.proofs.Edition.signalling.Goals as goal

pub returns : goal.returns
unfolding signalling
returns c = search rules
