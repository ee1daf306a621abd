-- The promises of `judge`.
-- Assumes nothing.
use Prim.Native.Nat.{ℕ}
use mathlib.Core.Path.{◌≡◌, refl}
use mathlib.Core.List.{List}
use Rattle.std.specs.Prelude.{Result}
use Rattle.octets.specs.Basics.{Row}
use Rattle.octets.specs.declared.refusals.Refusal.{Refusal}
use Rattle.judge.specs.Judge.{Verdict, pass, fault}
use Rattle.judge.specs.Calls.{Judging, JudgeSaid, judge_answers, judge_refused, judge_says, frame_refusals, unless_refused, judge_frame, frame_call, judge_close, close_refused, close_says, closes_with, close_rows, close_call, left_by, judge_calls}
use Rattle.judge.specs.Tapes.{frames_in, tape_refusals, tape_call}
use Rattle.judge.specs.declared.Judge.{Judge}
use Rattle.judge.proofs.Determined.{judge_determined, close_determined}
use Rattle.judge.proofs.Reaches.{reaches_all}
use Rattle.judge.proofs.Tapes.{tapes_are_frames}
use Rattle.judge.proofs.Theorems.{keeps_to_the_test}
use Rattle.demands.specs.Promises.{Left, as_read, Promised}
use Rattle.demands.specs.calls.Judge.{OfJudge}
use Rattle.demands.proofs.Promised.{promised, left_same}

pub closes_unrefused : (v : Verdict) → (close_says (closes_with v)).refusal ≡ 0
unfolding close_says closes_with
closes_unrefused pass = refl
closes_unrefused (fault k) = refl

-- what a frame's or a tape's call says and leaves
abbrev said : Judge → Left (Result Judge Refusal) → JudgeSaid
said j o = judge_says j o.answer o.lent

-- either is promised what its rows give
judges : (rows : List Row) (store : List ℕ) (j : Judge) (k : Judging)
    → Promised (as_read (Unit {0}) (λ (o : Left (Result Judge Refusal)). said j o ≡ unless_refused rows store j k))
    (unless_refused rows store j k) rows (said j) (λ a. a.refusal) (judge_refused j store)
judges rows store j k =
    promised (said j) (λ a. a.refusal) rows (judge_answers 0 k) (judge_refused j store) refl refl (λ n. refl)
    (record {
      free = tt;
      gives = λ o m. m;
      one = λ o o' p q.
          let same = judge_determined j {a = o.answer} {b = o'.answer} {p = o.lent} {q = o'.lent} p q in
          left_same o o' same.0 same.1;
    })

pub of_judge : OfJudge
unfolding frame_call tape_call close_call close_says
of_judge = record {
  frame = λ κs s j store f. judges (frame_refusals s store.now j) store.now j (judge_frame s store.now j f.now);
  tape = λ κs s j store t. judges (tape_refusals s store.now j t.now) store.now j (left_by (judge_calls s store.now j (frames_in s t.now)));
  close = λ κs s j lent-store.
      let store : List ℕ = lent-store.now in
      promised close_says (λ a. a.refusal) (close_rows s store j) (close_says (closes_with (judge_close j))) close_refused refl
      (closes_unrefused (judge_close j)) (λ n. refl) (record { free = tt; gives = λ o m. m; one = λ o o' p q. close_determined p q });
  keeps = keeps_to_the_test;
  exact = reaches_all;
  tapes = tapes_are_frames;
}
