-- Both fields fit.
use Rattle.std.proofs.Common.{ℕ, ◌+◌, ◌*◌, ap₂, arith}
use Rattle.words.proofs.Fields.{field_lt}
use Rattle.repair.specs.Header.{six_of}
use Rattle.repair.proofs.six_of.Goals as goal

pub overflow_mul-result : goal.overflow_mul-result
overflow_mul-result c = record { fits = omega (arith, field_lt c.args.head 32 16, field_lt c.args.head 0 8) }

pub overflow_add-result : goal.overflow_add-result
overflow_add-result c = record { fits = omega (arith, field_lt c.args.head 32 16, field_lt c.args.head 0 8) }

pub returns-clause-six : goal.returns-clause-six
unfolding six_of
returns-clause-six c = ap₂ (λ (x y : ℕ). x * 256 + y) c.field.ensures c.field-2.ensures

pub returns-clause-short : goal.returns-clause-short
returns-clause-short c = omega (arith, field_lt c.args.head 32 16, field_lt c.args.head 0 8)
