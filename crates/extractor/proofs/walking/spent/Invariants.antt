-- What is left to do leaves what all the steps leave, and each step leaves fewer turns.
use Rattle.extractor.specs.Calls.{through}
use Rattle.extractor.proofs.Spends.{Rest, turns}
use Rattle.extractor.proofs.walking.spent.Given as goal

abbrev pub invariant-loop-next : goal.invariant-loop-next
invariant-loop-next l = let all = through l.s l.frame l.fn.x l.fn.store in Rest l.s l.frame all.next all.store l.next l.store

abbrev pub decreases-loop-next : goal.decreases-loop-next
decreases-loop-next l = turns l.s l.frame l.next
