-- What the public functions of `judge` promise.
use Rattle.std.specs.Prelude.{Result}
use contract.Lifetimes.{Lfts}
use denote.Ref.{at_last}
use Rattle.octets.specs.declared.refusals.Refusal.{Refusal}
use Rattle.frames.specs.declared.Settings.{Settings}
use Rattle.judge.specs.Calls.{judge_refused, judge_says, frame_refusals, frame_call, close_refused, close_says, close_rows, close_call}
use Rattle.judge.specs.Tapes.{tape_refusals, tape_call}
use Rattle.judge.specs.Reach.{ReachesAll}
use Rattle.judge.specs.Statements.{KeepsToTheTest, TapesAreFrames}
use Rattle.judge.specs.declared.Judge.{Judge}
use Rattle.judge.specs.declared.Verdict.{Verdict}
use Rattle.judge.proofs.frame.Reads as frame_fn
use Rattle.judge.proofs.tape.Reads as tape_fn
use Rattle.judge.proofs.close.Reads as close_fn
use Rattle.demands.specs.Promises.{Slice, MutSlice, Left, as_read, Promised}

-- a frame, a tape and the close; the record that a call leaves passes the check for refusal 10 over the store that it leaves, and it is exact;
-- and a tape is its frames
pub record OfJudge : Type 0 where
  pub frame : (κs : Lfts 2) (s : Settings) (j : Judge) (store : MutSlice) (f : Slice)
      → Promised (as_read (frame_fn.Pre κs (s, (j, (store, (f, tt)))))
      (λ (o : Left (Result Judge Refusal)). frame_fn.Post κs (s, (j, (store, (f, tt)))) o.answer (s, (j, (at_last store o.lent, (f, tt))))))
      (frame_call s store.now j f.now) (frame_refusals s store.now j)
      (λ o. judge_says j o.answer o.lent) (λ a. a.refusal) (judge_refused j store.now)
  pub tape : (κs : Lfts 2) (s : Settings) (j : Judge) (store : MutSlice) (t : Slice)
      → Promised (as_read (tape_fn.Pre κs (s, (j, (store, (t, tt)))))
      (λ (o : Left (Result Judge Refusal)). tape_fn.Post κs (s, (j, (store, (t, tt)))) o.answer (s, (j, (at_last store o.lent, (t, tt))))))
      (tape_call s store.now j t.now) (tape_refusals s store.now j t.now)
      (λ o. judge_says j o.answer o.lent) (λ a. a.refusal) (judge_refused j store.now)
  pub close : (κs : Lfts 1) (s : Settings) (j : Judge) (store : Slice)
      → Promised (as_read (close_fn.Pre κs (s, (j, (store, tt)))) (λ (r : Result Verdict Refusal). close_fn.Post κs (s, (j, (store, tt))) r (s, (j, (store, tt)))))
      (close_call s store.now j) (close_rows s store.now j)
      close_says (λ a. a.refusal) close_refused
  pub keeps : KeepsToTheTest
  pub exact : ReachesAll
  pub tapes : TapesAreFrames
