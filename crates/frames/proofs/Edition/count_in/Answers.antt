-- `Edition::count_in` meets its contract: the cycle has four bits at most, so that moved up it stays within the word.
use Rattle.std.proofs.Common.{◌≡◌, ℕ, ◌^◌, ◌<◌, arith, rules}
use Rattle.words.specs.Fields.{read}
use Rattle.words.proofs.Fields.{field_lt, field_within}
use Rattle.frames.specs.Edition.{cycle_width, cycle_at, count_in}
use Rattle.frames.specs.declared.Edition.{Edition}
use Rattle.frames.proofs.Signals.{cycle_narrow}
use Rattle.frames.proofs.Edition.count_in.Goals as goal

-- the cycle has four bits at most
cycle_small : (e : Edition) (head : ℕ) → read (cycle_at e) head < 2 ^ 4
cycle_small e head = field_within 4 head 0 (cycle_width e) (cycle_narrow e)

pub overflow_cast-cycle : goal.overflow_cast-cycle
overflow_cast-cycle c =
    let cycle : c.field-cycle.result ≡ read (cycle_at c.args.self) c.args.head = search rules in
    record { fits = omega (arith, cycle, cycle_small c.args.self c.args.head) }

pub overflow_cast-own : goal.overflow_cast-own
overflow_cast-own c = record { fits = omega (arith, c.field-own.ensures, field_lt c.args.head 8 24) }

pub overflow_add-result : goal.overflow_add-result
overflow_add-result c =
    let cycle : c.field-cycle.result ≡ read (cycle_at c.args.self) c.args.head = search rules in
    record { fits = omega (arith, cycle, cycle_small c.args.self c.args.head, c.field-own.ensures, field_lt c.args.head 8 24) }

pub returns : goal.returns
unfolding count_in
returns c =
    let cycle : c.field-cycle.result ≡ read (cycle_at c.args.self) c.args.head = search rules in
    omega (arith, cycle, cycle_small c.args.self c.args.head, c.field-own.ensures)
