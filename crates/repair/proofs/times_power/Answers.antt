-- The sum of its digits, each times that power.
use Rattle.std.proofs.Common.{ℕ, ◌+◌, ◌∙◌, ap, add-zero, rules}
use Rattle.repair.specs.Field.{power}
use Rattle.repair.proofs.Table.{digits, by_digits, four_digits}
use Rattle.repair.proofs.times_power.Goals as goal

pub returns : goal.returns
returns c =
    let e = c.args.e in
    let n = c.args.n in
    c.digits_sum.ensures (λ i. power (n + i)) (λ i r h p. search rules) ∙ four_digits e (λ i. power (n + i))
    ∙ ap (λ (k : ℕ). digits e (power k) (power (n + 1)) (power (n + 2)) (power (n + 3))) (add-zero n) ∙ by_digits e n
