-- The first row that holds refuses, and else the frame is entered.
use Rattle.std.proofs.Common.{sym, ap, ◌∙◌, refl, rules}
use Rattle.std.proofs.lemmas.Bool.{eqb-false}
use Rattle.octets.proofs.ByNumber.{refused_not_0}
use Rattle.frames.specs.Frame.{frame_rows, heading_rows, heading}
use Rattle.frames.specs.Shape.{Heading}
use Rattle.extractor.specs.Answers.{enter_answer}
use Rattle.extractor.proofs.Refused.{entry_refused, entry_above, entry_moment, entry_below}
use Rattle.extractor.proofs.enter.Goals as goal

pub returns-in_err-check : goal.returns-in_err-check
returns-in_err-check c =
    let a = c.args in
    let some = refused_not_0 c.in_err-check.field-0.0 in
    let told = entry_refused a.s a.x a.store.now a.frame.now (entry_above a.s a.x a.store.now a.frame.now c.in_err-check.ensures some) some in
    search rules

pub returns-then-is_entered : goal.returns-then-is_entered
returns-then-is_entered c =
    let a = c.args in
    entry_refused a.s a.x a.store.now a.frame.now
    (entry_moment a.s a.x a.store.now a.frame.now c.in_ok-check.ensures (sym c.is_entered.ensures ∙ c.if-is_entered.true)) (eqb-false 9 0 refl)

pub returns-in_err-heading : goal.returns-in_err-heading
unfolding heading heading_rows frame_rows
returns-in_err-heading c =
    let a = c.args in
    let row = ap (λ (h : Heading). h.refusal) c.in_err-heading.ensures in
    let told =
    entry_refused a.s a.x a.store.now a.frame.now
    (entry_below a.s a.x a.store.now a.frame.now c.in_ok-check.ensures (sym c.is_entered.ensures ∙ c.if-is_entered.false) row)
    (refused_not_0 c.in_err-heading.field-0.0) in
    search rules

pub taken-requires-clause-frame_value : goal.taken-requires-clause-frame_value
unfolding heading heading_rows frame_rows
taken-requires-clause-frame_value c =
    let a = c.args in
    let row = ap (λ (h : Heading). h.refusal) c.in_ok-heading.ensures in
    sym (entry_below a.s a.x a.store.now a.frame.now c.in_ok-check.ensures (sym c.is_entered.ensures ∙ c.if-is_entered.false) row)

pub taken-requires-clause-heads : goal.taken-requires-clause-heads
unfolding heading heading_rows frame_rows
taken-requires-clause-heads c = c.in_ok-heading.ensures

pub returns : goal.returns
unfolding enter_answer heading heading_rows frame_rows
returns c =
    let a = c.args in
    let row = ap (λ (h : Heading). h.refusal) c.in_ok-heading.ensures in
    rw (← entry_below a.s a.x a.store.now a.frame.now c.in_ok-check.ensures (sym c.is_entered.ensures ∙ c.if-is_entered.false) row) c.taken.ensures
