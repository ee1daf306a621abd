-- Each turn adds one more term.
use Rattle.std.proofs.Common.{ℕ, refl, sym, ap, ap₂, ◌∙◌, add-one, bit_xor, ◌*◌}
use Rattle.repair.specs.Field.{power, product}
use Rattle.repair.specs.Code.{symbol}
use Rattle.repair.specs.Values.{total, value}
use Rattle.repair.proofs.Word.value.Goals as goal

pub loop-k-init : goal.loop-k-init
unfolding value total
loop-k-init c = refl

pub loop-k-preserved : goal.loop-k-preserved
unfolding value total
loop-k-preserved c =
    ap₂ bit_xor c.loop-k.invariant (c.times_power-sum.ensures ∙ ap (λ (s : ℕ). product s (power (c.args.j * c.loop-k.k))) c.symbol.ensures)
    ∙ ap (λ (k : ℕ). value k c.args.j (λ i. symbol i c.args.self.number)) (sym (add-one c.loop-k.k))
