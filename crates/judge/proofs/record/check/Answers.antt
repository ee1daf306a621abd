-- The rows that the extractor tells, and the record's own.
use Rattle.std.proofs.Common.{rules, sym, ◌∙◌}
use Rattle.octets.proofs.ByNumber.{refused_not_0}
use Rattle.judge.proofs.Rows.{refused_holding, accepted_holding}
use Rattle.judge.proofs.record.check.Goals as goal

pub returns-in_err-record_refusal : goal.returns-in_err-record_refusal
returns-in_err-record_refusal c =
    let a = c.args in
    let e = rw c.extractor_of.ensures at c.in_err-record_refusal.ensures in
    let row = refused_holding a.s a.store.now a.j (λ none. refused_not_0 c.in_err-record_refusal.field-0.0 (e ∙ none)) in
    search rules

pub counts_well-requires : goal.counts_well-requires
counts_well-requires c =
    let a = c.args in
    let e = rw c.extractor_of.ensures at c.in_ok-record_refusal.ensures in
    (accepted_holding a.s a.store.now a.j (sym e)).0

pub returns-then-not-counts_well : goal.returns-then-not-counts_well
returns-then-not-counts_well c =
    let a = c.args in
    let e = rw c.extractor_of.ensures at c.in_ok-record_refusal.ensures in
    rw (← c.counts_well.ensures, c.if-not-counts_well.true) at (accepted_holding a.s a.store.now a.j (sym e)).1

pub returns : goal.returns
returns c =
    let a = c.args in
    let e = rw c.extractor_of.ensures at c.in_ok-record_refusal.ensures in
    rw (← c.counts_well.ensures, c.if-not-counts_well.false) at (accepted_holding a.s a.store.now a.j (sym e)).1
