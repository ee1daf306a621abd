use Rattle.std.proofs.Common.{ap, ◌∙◌, ℕ, arith}
use Rattle.words.specs.Fields.{field}
use Rattle.words.proofs.Fields.{field_within}
use Rattle.octets.proofs.Numbers.{number_within}
use Rattle.packets.proofs.apid.Goals as goal

pub overflow_cast-result : goal.overflow_cast-result
overflow_cast-result c = omega (arith, c.field.ensures, field_within 16 c.number.result 0 11 (omega arith))

pub returns : goal.returns
returns c =
    c.field.ensures
    ∙ ap (λ (word : ℕ). field word 0 11) (c.number.ensures.whole (omega arith) ∙ number_within 2 0 c.args.start.now c.requires)
