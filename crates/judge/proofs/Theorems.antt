-- The statements about the judge's calls, proved.
-- Assumes nothing.
use mathlib.Core.Path.{refl}
use Rattle.judge.specs.Calls.{frame_refusals, judge_frame, frame_call, left_by, judge_calls}
use Rattle.judge.specs.Tapes.{frames_in, tape_refusals, tape_call}
use Rattle.judge.specs.Statements.{Keeps, KeepsToTheTest, ComesToTheVerdict}
use Rattle.judge.proofs.Accepting.{accepts}
use Rattle.judge.proofs.Advances.{judge_advances}
use Rattle.judge.proofs.Answered.{keeps_by}
use Rattle.judge.proofs.Runs.{run_is_verdict}
use Rattle.judge.proofs.Tapes.{plays, tape_ran}

frame_keeps : Keeps frame_call
unfolding frame_call
frame_keeps =
    keeps_by (λ s store j f. frame_refusals s store j) judge_frame frame_call (λ s store j f. refl)
    (λ s store j f e.
    let a = judge_advances s store j f (accepts s store j e) in
    record { reach = a.reach; same_room = a.same_room; beyond = a.beyond })

tape_keeps : Keeps tape_call
unfolding tape_call
tape_keeps =
    keeps_by tape_refusals (λ s store j tape. left_by (judge_calls s store j (frames_in s tape))) tape_call (λ s store j tape. refl)
    (λ s store j tape e.
    let r = tape_ran (plays s store j tape e) in
    record { reach = r.reach; same_room = r.same_room; beyond = r.beyond })

pub keeps_to_the_test : KeepsToTheTest
keeps_to_the_test = record { frame = frame_keeps; tape = tape_keeps }

pub comes_to_the_verdict : ComesToTheVerdict
comes_to_the_verdict s store fs (ok, room) few = run_is_verdict s store fs ok room few
