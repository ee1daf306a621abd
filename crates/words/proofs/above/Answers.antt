use Rattle.std.proofs.Common.{sym}
use Rattle.words.proofs.Fields.{above_past}
use Rattle.words.proofs.above.Goals as goal

pub returns-then-width-ge64 : goal.returns-then-width-ge64
returns-then-width-ge64 c = sym (above_past 64 c.args.word c.args.width c.ranges.word.fits c.if-width-ge64.true)
