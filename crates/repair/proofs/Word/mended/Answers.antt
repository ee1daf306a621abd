-- A candidate that is rightly written is the word that is looked for, and a pair whose candidate is not has none.
use Rattle.std.proofs.Common.{sym, ◌∙◌, below_more, arith}
use Rattle.repair.proofs.Reading.{missed, read_found, none_found}
use Rattle.repair.proofs.Word.mended.Goals as goal

pub returns-then-is_written : goal.returns-then-is_written
returns-then-is_written c =
    read_found c.args.self.number c.loop-p.p c.loop-q.q c.candidate-found.result.number c.candidate-found.ensures
    (sym c.is_written.ensures ∙ c.if-is_written.true)

pub loop-q-preserved : goal.loop-q-preserved
loop-q-preserved c =
    below_more _ _ c.loop-q.invariant
    (λ l. missed c.args.self.number c.loop-p.p c.loop-q.q c.candidate-found.result.number c.candidate-found.ensures
    (sym c.is_written.ensures ∙ c.if-is_written.false))

pub loop-p-preserved : goal.loop-p-preserved
loop-p-preserved c = below_more _ _ c.loop-p.invariant (λ q h. c.loop-q.invariant q (omega arith))

pub returns : goal.returns
returns c = none_found c.args.self.number (λ p h. c.loop-p.invariant p (omega arith))
