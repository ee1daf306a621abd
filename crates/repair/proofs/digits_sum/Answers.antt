-- Each turn adds one more digit times its term.
use Rattle.std.proofs.Common.{ℕ, ◌≡◌, ◌*◌, ◌/◌, ◌%◌, ◌^◌, refl, sym, ap, ap₂, ◌∙◌, add-one, bit_xor, arith}
use Rattle.repair.specs.Values.{total}
use Rattle.repair.proofs.digits_sum.Goals as goal

pub loop-i-init : goal.loop-i-init
unfolding total
loop-i-init g c t h = refl

pub loop-i-preserved : goal.loop-i-preserved
unfolding total
loop-i-preserved g c t h =
    ap₂ bit_xor (c.loop-i.invariant t h)
    (c.digit_times-sum.ensures ∙ ap (λ (r : ℕ). c.args.e / 2 ^ c.loop-i.i % 2 * r) (h c.loop-i.i c.term.result c.loop-i-test.true c.term.ensures))
    ∙ ap (λ (k : ℕ). total k (λ i. c.args.e / 2 ^ i % 2 * t i)) (sym (add-one c.loop-i.i))

pub returns : goal.returns
returns g c t h =
    let four : c.loop-i.i ≡ 4 = omega arith in
    c.loop-i.invariant t h ∙ ap (λ (k : ℕ). total k (λ i. c.args.e / 2 ^ i % 2 * t i)) four
