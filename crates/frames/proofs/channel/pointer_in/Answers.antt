-- `pointer_in` meets its contract: a field is no more than the number that it is read from.
use Rattle.std.proofs.Common.{arith}
use Rattle.words.proofs.Fields.{field_le}
use Rattle.frames.proofs.channel.pointer_in.Goals as goal

pub overflow_cast-result : goal.overflow_cast-result
overflow_cast-result g c =
    let at = c.pointer_at.result in
    record { fits = omega (arith, c.field.ensures, field_le c.args.zone at.below at.width, c.ranges.zone) }
