-- Two outcomes that meet a promise are equal.
-- Assumes nothing.
use mathlib.Core.Path.{◌≡◌, refl, sym, ap, ◌∙◌}
use mathlib.Core.List.{List}
use Prim.Native.Nat.{ℕ}
use Rattle.std.specs.Prelude.{Result, Ok, Err}
use Rattle.octets.specs.Basics.{pick}
use Rattle.octets.specs.declared.refusals.Refusal.{Refusal}
use Rattle.octets.proofs.ByNumber.{named, named_by, same_number, refused_not_0}
use Rattle.octets.proofs.Tests.{told_apart}
use Rattle.judge.specs.Calls.{JudgeSaid, judge_says, CloseSaid, close_says}
use Rattle.judge.specs.declared.Judge.{Judge}
use Rattle.judge.specs.declared.Verdict.{Verdict}

same_judged : (j : Judge) (a b : Result Judge Refusal) (p q : List ℕ) → judge_says j a p ≡ judge_says j b q → (a ≡ b) × (p ≡ q)
same_judged j (Ok a) (Ok b) p q e = (ap Ok (ap (λ (r : JudgeSaid). r.next) e), ap (λ (r : JudgeSaid). r.store) e)
same_judged j (Ok a) (Err r) p q e = absurd (refused_not_0 r (sym (ap (λ (r : JudgeSaid). r.refusal) e)))
same_judged j (Err r) (Ok b) p q e = absurd (refused_not_0 r (ap (λ (r : JudgeSaid). r.refusal) e))
same_judged j (Err r) (Err s) p q e = (ap Err (same_number r s (ap (λ (r : JudgeSaid). r.refusal) e)), ap (λ (r : JudgeSaid). r.store) e)

-- the answer, the record and every octet of the store
pub judge_determined : (j : Judge) {a b : Result Judge Refusal} {p q : List ℕ} {x : JudgeSaid} → judge_says j a p ≡ x → judge_says j b q ≡ x → (a ≡ b) × (p ≡ q)
judge_determined j {a} {b} {p} {q} d e = same_judged j a b p q (d ∙ sym e)

closed_back : CloseSaid → Result Verdict Refusal
closed_back a = pick a.accepted (Ok (pick a.passes Verdict.Pass (Verdict.Fault a.at))) (Err (named a.refusal))

closed_undo : (r : Result Verdict Refusal) → closed_back (close_says r) ≡ r
unfolding closed_back close_says
closed_undo (Err refusal) = ap Err (named_by refusal)
closed_undo (Ok Verdict.Pass) = refl
closed_undo (Ok (Verdict.Fault k)) = refl

pub close_determined : {a b : Result Verdict Refusal} {x : CloseSaid} → close_says a ≡ x → close_says b ≡ x → a ≡ b
close_determined = told_apart close_says closed_back closed_undo
