-- `in_range` of bitstream settings meets its contract: the tests are the definition's.
use Rattle.std.proofs.Common.{rules}
use Rattle.frames.specs.BitFrame.{bits_in_range}
use Rattle.frames.proofs.bits.BitSettingsChannel.in_range.Goals as goal

pub returns : goal.returns
unfolding bits_in_range
returns c = search rules
