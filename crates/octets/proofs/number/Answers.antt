use Rattle.std.proofs.Common.{◌≡◌, refl, sym, ◌∙◌, ap, subst, ◌*◌, ◌<◌, ℕ, ◌+◌, ◌-◌, ◌%◌, ◌^◌, ◌≤◌, length, take, drop, List}
use native.Mathlib.Nat.{one-le-pow}
use native.Mathlib.Omega.{arith}
use borrow.Author.Tests.{leb-true, leb-false}
use Rattle.std.proofs.Math.Seq.{take-length}
use Rattle.octets.specs.Basics.{number, number_from}
use Rattle.octets.proofs.Fronts.{all_known, all_take, all_drop}
use Rattle.octets.proofs.Numbers.{number_within, number_past, octet_turn, number_at_fits, number_at_short}
use Rattle.octets.proofs.number.Goals as goal

pub returns-then-not-within-clause-low : goal.returns-then-not-within-clause-low
returns-then-not-within-clause-low g c =
    ap (λ (n : ℕ). n % 2 ^ 64) (sym (number_past g.row.K c.args.at c.args.s.now (leb-false _ _ (sym c.within.ensures ∙ c.if-not-within.true))))

pub returns-then-not-within-clause-whole : goal.returns-then-not-within-clause-whole
returns-then-not-within-clause-whole g c h =
    sym (number_past g.row.K c.args.at c.args.s.now (leb-false _ _ (sym c.within.ensures ∙ c.if-not-within.true)))

pub loop-octet-init : goal.loop-octet-init
unfolding number number_from
loop-octet-init g c = refl

pub loop-octet-preserved : goal.loop-octet-preserved
loop-octet-preserved g c =
    let a = c.args in
    let n : ℕ = a.at + g.row.K - a.at in
    octet_turn (take n (drop a.at a.s.now)) c.loop-octet.octet-index c.loop-octet.number
    (all_take n (drop a.at a.s.now) (all_drop a.at a.s.now (all_known a.s.now c.type_inv.s))) c.loop-octet-test.true c.loop-octet.invariant

pub returns-clause-low : goal.returns-clause-low
returns-clause-low g c =
    let a = c.args in
    let fits : a.at + g.row.K ≤ length a.s.now = leb-true _ _ (sym c.within.ensures ∙ c.if-not-within.false) in
    let n : a.at + g.row.K - a.at ≡ g.row.K = omega arith in
    let i : length (take (a.at + g.row.K - a.at) (drop a.at a.s.now)) ≡ c.loop-octet.octet-index = omega (arith, c.loop-octet-test.false, c.loop-octet.auto.octet-index-end) in
    c.loop-octet.invariant
    ∙ ap (λ (j : ℕ). number (take j (take (a.at + g.row.K - a.at) (drop a.at a.s.now))) % 2 ^ 64) (sym i)
    ∙ ap (λ (os : List ℕ). number os % 2 ^ 64) (take-length (take (a.at + g.row.K - a.at) (drop a.at a.s.now)))
    ∙ ap (λ (m : ℕ). number (take m (drop a.at a.s.now)) % 2 ^ 64) n
    ∙ ap (λ (m : ℕ). m % 2 ^ 64) (sym (number_within g.row.K a.at a.s.now fits))

pub returns-clause-whole : goal.returns-clause-whole
returns-clause-whole g c h = returns-clause-low g c ∙ number_at_fits g.row.K c.args.at c.args.s.now (all_known c.args.s.now c.type_inv.s) h

pub returns-then-not-within-clause-short : goal.returns-then-not-within-clause-short
returns-then-not-within-clause-short g c = one-le-pow (8 * g.row.K) 2 (omega arith)

pub returns-clause-short : goal.returns-clause-short
returns-clause-short g c =
    subst (λ (n : ℕ). n < 2 ^ (8 * g.row.K)) (sym (returns-clause-low g c)) (number_at_short g.row.K c.args.at c.args.s.now (all_known c.args.s.now c.type_inv.s))
