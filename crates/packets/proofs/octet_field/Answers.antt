use Rattle.std.proofs.Common.{arith}
use Rattle.words.proofs.Fields.{field_le}
use Rattle.packets.proofs.octet_field.Goals as goal

pub overflow_cast-result : goal.overflow_cast-result
overflow_cast-result c = omega (arith, c.field.ensures, field_le c.octet.result c.args.at.below c.args.at.width)
