-- `head_word` meets its contract: the fields are put in one after the other.
use Rattle.std.proofs.Common.{rules}
use Rattle.frames.specs.Link.{head_word}
use Rattle.frames.proofs.channel.head_word.Goals as goal

pub returns : goal.returns
unfolding head_word
returns c = search rules
