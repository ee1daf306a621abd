-- By the table's rule, since the powers come again after fifteen.
use Rattle.std.proofs.Common.{◌%◌, ◌∙◌, arith}
use Rattle.repair.proofs.Table.{table}
use Rattle.repair.proofs.Laws.{power_lt, power_round}
use Rattle.repair.proofs.power.Goals as goal

pub returns-clause-power : goal.returns-clause-power
returns-clause-power c = table (c.args.n % 15) (omega arith) ∙ power_round c.args.n

pub returns-clause-small : goal.returns-clause-small
returns-clause-small c = omega (arith, table (c.args.n % 15) (omega arith), power_lt (c.args.n % 15))
