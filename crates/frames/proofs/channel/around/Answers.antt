-- `around` meets its contract: a trailer has two octets at most.
use Rattle.std.proofs.Common.{arith}
use Rattle.trailer.proofs.Setting.{extra_small}
use Rattle.frames.proofs.channel.around.Goals as goal

pub overflow_add-result : goal.overflow_add-result
overflow_add-result c = record { fits = omega (arith, c.extra.ensures, extra_small c.args.l.trailed) }
