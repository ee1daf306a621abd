-- `Link::in_range` meets its contract: the tests are the definition's.
use Rattle.std.proofs.Common.{rules}
use Rattle.frames.specs.Link.{link_in_range}
use Rattle.frames.proofs.Link.in_range.Goals as goal

pub returns : goal.returns
unfolding link_in_range
returns c = search rules
