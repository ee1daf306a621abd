-- What entering answers decides, or the record that the steps leave.
use Rattle.std.proofs.Common.{sym, ap, ◌∙◌}
use Rattle.extractor.specs.Calls.{SpendSaid, spend_answer}
use Rattle.judge.proofs.Trying.{refused_tried, marked_tried, unmarked_tried, spent_next, spent_store}
use Rattle.judge.proofs.trial.tried.Goals as goal

pub returns-in_default : goal.returns-in_default
returns-in_default c = rw c.fault.ensures (refused_tried c.requires c.args.frame.now c.in_default.field-0 c.in_default.ensures)

pub returns-then-entry-is_some : goal.returns-then-entry-is_some
returns-then-entry-is_some c =
    rw c.fault-then-entry-is_some.ensures (marked_tried c.requires c.args.frame.now _ (rw c.in-Ok.is at c.enter.ensures) (rw c.is_some.ensures at c.if-entry-is_some.true))

pub returns : goal.returns
unfolding spend_answer
returns c =
    let told = c.spend-spent.ensures in
    let next = sym (spent_next _ c.spend-spent.result c.spend-spent.new.store) ∙ ap (λ (a : SpendSaid). a.next) told in
    let store = sym (spent_store _ c.spend-spent.result c.spend-spent.new.store) ∙ ap (λ (a : SpendSaid). a.store) told in
    rw (c.goes_on_from.ensures, c.unwrap_or.ensures, next, store)
    (unmarked_tried c.requires c.args.frame.now _ (rw c.in-Ok.is at c.enter.ensures) (rw c.is_some.ensures at c.if-entry-is_some.false))
