-- No pair that was passed mends the word.
use Rattle.std.proofs.Common.{ℕ, ◌<◌}
use Rattle.repair.proofs.Reading.{Missed}
use Rattle.repair.proofs.Word.mended.Given as goal

abbrev pub invariant-loop-p : goal.invariant-loop-p
invariant-loop-p l = (p : ℕ) → p < l.p → (q : ℕ) → q < 10 → p < q → Missed l.fn.self.number p q

abbrev pub invariant-loop-q : goal.invariant-loop-q
invariant-loop-q l = (q : ℕ) → q < l.q → l.p < q → Missed l.fn.self.number l.p q
