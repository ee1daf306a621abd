-- The other change is taken out, and the places divided away.
use Rattle.std.proofs.Common.{◌≡◌, ℕ, ◌+◌, ◌-◌, ◌*◌, ap, ap₂, subst, ◌∙◌, bit_xor, arith}
use Rattle.repair.specs.Field.{power, product}
use Rattle.repair.specs.Values.{Exponent}
use Rattle.repair.proofs.Mending.{amount_by}
use Rattle.repair.proofs.Damaged.amount.Goals as goal

pub returns : goal.returns
returns c =
    let a = c.args in
    let apart : bit_xor c.power.result c.power-2.result ≡ bit_xor (power a.p) (power a.q) =
    ap₂ bit_xor c.power.ensures.power c.power-2.ensures.power in
    amount_by a.self.six a.self.seven a.p a.q c.exponent-apart.result c.times_power-2.result (omega arith) (omega arith)
    (subst (λ (e : ℕ). Exponent e c.exponent-apart.result) apart c.exponent-apart.ensures)
    (c.times_power-2.ensures ∙ ap (λ (n : ℕ). product (bit_xor a.self.seven n) (power (15 - c.exponent-apart.result + 9 * a.p))) c.times_power.ensures)
