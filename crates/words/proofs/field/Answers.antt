use Rattle.std.proofs.Common.{sym, ◌∙◌}
use Rattle.words.proofs.Fields.{field_rest, field_mask}
use Rattle.words.proofs.field.Goals as goal

pub returns-then-width-ge64 : goal.returns-then-width-ge64
returns-then-width-ge64 c = c.above-rest.ensures ∙ sym (field_rest 64 _ _ _ c.ranges.word.fits c.if-width-ge64.true)

pub returns : goal.returns
returns c = rw c.above-rest.ensures (field_mask 64 _ _ _ c.if-width-ge64.false)
