-- `in_range` of packet settings meets its contract: the tests are the definition's.
use Rattle.std.proofs.Common.{rules}
use Rattle.frames.specs.Frame.{in_range}
use Rattle.frames.proofs.SettingsChannel.in_range.Goals as goal

pub returns : goal.returns
unfolding in_range
returns c = search rules
