-- `check_frame` meets its contract: each row is a test of the code.
use Rattle.std.proofs.Common.{rules}
use Rattle.octets.specs.Basics.{first}
use Rattle.frames.proofs.channel.check_frame.Goals as goal

pub returns-then-not-has_length : goal.returns-then-not-has_length
unfolding first
returns-then-not-has_length g c = search rules

pub returns-then-is_wrong : goal.returns-then-is_wrong
unfolding first
returns-then-is_wrong g c = search rules

pub returns : goal.returns
unfolding first
returns g c = search rules
