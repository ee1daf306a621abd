-- A refusal by its row, or the frame judged.
use Rattle.std.proofs.Common.{refl, sym, ap, ◌∙◌, [], ◌∷◌, Bool, rules}
use Rattle.std.proofs.lemmas.Bool.{eqb-false}
use Rattle.octets.specs.Basics.{pick, first}
use Rattle.octets.proofs.ByNumber.{refused_not_0}
use Rattle.judge.specs.Calls.{past_last, frame_refusals, frame_call, judge_frame}
use Rattle.judge.proofs.Accepting.{checked_close}
use Rattle.judge.proofs.Advances.{tally_most}
use Rattle.judge.proofs.Answered.{refuses, not_refused}
use Rattle.judge.proofs.Rows.{refused_close, accepted_close}
use Rattle.judge.proofs.frame.Goals as goal

pub returns-in_err-check : goal.returns-in_err-check
unfolding frame_call frame_refusals
returns-in_err-check c =
    let a = c.args in
    let some = refused_not_0 c.in_err-check.field-0.0 in
    let told =
    refuses (frame_refusals a.s a.store.now a.j) a.store.now a.j (judge_frame a.s a.store.now a.j a.frame.now)
    (refused_close a.s a.store.now a.j c.in_err-check.ensures (past_last a.j 1 ∷ []) some) some in
    search rules

pub is_past_last-requires : goal.is_past_last-requires
is_past_last-requires c =
    let a = c.args in
    tally_most a.s a.store.now a.j (checked_close a.s a.store.now a.j (sym c.in_ok-check.ensures)).reached

pub returns-then-is_past_last : goal.returns-then-is_past_last
unfolding frame_call frame_refusals first
returns-then-is_past_last c =
    let a = c.args in
    let row =
    ap (λ (t : Bool). pick t 11 0) (sym c.if-is_past_last.true ∙ c.is_past_last.ensures)
    ∙ accepted_close a.s a.store.now a.j c.in_ok-check.ensures (past_last a.j 1 ∷ []) refl in
    refuses (frame_refusals a.s a.store.now a.j) a.store.now a.j (judge_frame a.s a.store.now a.j a.frame.now) row (eqb-false 11 0 refl)

pub judged-requires : goal.judged-requires
unfolding frame_refusals first
judged-requires c =
    let a = c.args in
    sym (ap (λ (t : Bool). pick t 11 0) (sym c.if-is_past_last.false ∙ c.is_past_last.ensures)
    ∙ accepted_close a.s a.store.now a.j c.in_ok-check.ensures (past_last a.j 1 ∷ []) refl)

pub returns : goal.returns
unfolding frame_call frame_refusals first
returns c =
    let a = c.args in
    let none =
    sym (ap (λ (t : Bool). pick t 11 0) (sym c.if-is_past_last.false ∙ c.is_past_last.ensures)
    ∙ accepted_close a.s a.store.now a.j c.in_ok-check.ensures (past_last a.j 1 ∷ []) refl) in
    not_refused (frame_refusals a.s a.store.now a.j) a.store.now a.j none c.judged.ensures
