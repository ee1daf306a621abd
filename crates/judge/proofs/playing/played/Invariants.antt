-- The frames that are left lead to what all of them lead to.
use Rattle.judge.specs.Calls.{left_by, judge_calls}
use Rattle.judge.specs.Tapes.{frames_in}
use Rattle.judge.proofs.Winding.{Winds}
use Rattle.judge.proofs.playing.played.Given as goal

abbrev pub invariant-loop-frame : goal.invariant-loop-frame
invariant-loop-frame l =
    Winds l.s (left_by (judge_calls l.s l.initial.store l.fn.j (frames_in l.s l.tape))) l.initial.store l.store l.next l.frame-iterator.size l.frame-iterator.rest.now
