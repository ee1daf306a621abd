use Rattle.std.proofs.Common.{arith}
use Rattle.wrapping.specs.Front.{second_octet}
use Rattle.wrapping.proofs.Fronts.{second_octet_lt}
use Rattle.wrapping.proofs.front.Front.second_octet.Goals as goal

pub overflow_cast-result : goal.overflow_cast-result
unfolding second_octet
overflow_cast-result c = omega (arith, c.placed.ensures, second_octet_lt c.args.self.extension)
