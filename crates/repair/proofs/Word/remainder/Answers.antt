-- Each turn brings one more symbol down.
use Rattle.std.proofs.Common.{◌≡◌, ℕ, suc, ◌-◌, ◌*◌, ◌/◌, ◌^◌, ◌<◌, sym, ap, ap₂, subst, ◌∙◌, arith}
use Rattle.repair.specs.Code.{remainder, four}
use Rattle.repair.specs.Values.{brought_down}
use Rattle.repair.proofs.Roots.{small, four_lt}
use Rattle.repair.proofs.Words.{symbol_lt}
use Rattle.repair.proofs.Division.{first_four, next}
use Rattle.repair.proofs.Word.remainder.Goals as goal

pub loop-k-init : goal.loop-k-init
loop-k-init c = sym (first_four (c.args.self.number / 2 ^ 24) (omega (arith, c.args.self.short)))

pub brought_down-left-requires : goal.brought_down-left-requires
brought_down-left-requires c =
    let w : ℕ = c.args.self.number in
    let k : ℕ = c.loop-k.k in (
      subst (λ (n : ℕ). n < 16 ^ 4) (sym c.loop-k.invariant) (four_lt (remainder (10 - k) (w / 2 ^ (4 * k))) (small (10 - k) (w / 2 ^ (4 * k)))),
      omega (arith, symbol_lt (k - 1) w),
    )

pub loop-k-preserved : goal.loop-k-preserved
loop-k-preserved c =
    let w : ℕ = c.args.self.number in
    let k : ℕ = c.loop-k.k in
    let one_less : k ≡ suc (k - 1) = omega arith in
    c.brought_down-left.ensures
    ∙ ap₂ brought_down (c.loop-k.invariant ∙ ap (λ (n : ℕ). four (remainder (10 - n) (w / 2 ^ (4 * n)))) one_less) c.symbol.ensures
    ∙ next (k - 1) w (omega arith)
