-- A field of four bits is a symbol.
use Rattle.repair.specs.Code.{symbol}
use Rattle.repair.proofs.Word.symbol.Goals as goal

pub returns : goal.returns
unfolding symbol
returns c = c.field.ensures
