-- Whole runs: none of their calls is refused, and they come to the verdict of the written rules.
-- Assumes nothing.
use mathlib.Core.Path.{◌≡◌, refl, sym, ap, ◌∙◌}
use mathlib.Core.List.{List, [], ◌∷◌}
use mathlib.Core.Bool.{true}
use Prim.Native.Nat.{ℕ, zero, suc, ◌+◌, ◌≤◌}
use native.Mathlib.Nat.{zero-add}
use native.Mathlib.Omega.{arith}
use lib.ListN.{length, take, drop}
use lib.Dec.{eqb}
use borrow.Author.Tests.{le-ltb, ne_eqb}
use Rattle.octets.specs.Basics.{pick, All, first}
use Rattle.frames.specs.Frame.{in_range, most_frames}
use Rattle.frames.specs.declared.Settings.{Settings}
use Rattle.extractor.specs.Records.{reachable, is_entered, stands_for}
use Rattle.extractor.specs.declared.Extractor.TheVariants.{InStep}
use Rattle.extractor.proofs.Unrefused.{held_fits}
use Rattle.judge.specs.Judge.{Verdict, pass, fault, close, judged, verdict}
use Rattle.judge.specs.Calls.{tally_of, counts_well, judge_reachable, past_last, frame_refusals, close_rows, Judging, judge_frame, judge_answers, frame_call, judge_close, close_says, closes_with, close_call, RunCalls, calls, judge_calls, judge_run}
use Rattle.judge.specs.declared.Judge.{Judge}
use Rattle.judge.specs.declared.Judge.TheVariants.{Open, Sound, Faulty}
use Rattle.judge.proofs.Accepting.{checks_none, Accepts}
use Rattle.judge.proofs.Advances.{sound_reach, verdict_from, judge_advances}

-- ---- calls that are not refused

pub frame_accepted : {s : Settings} {store : List ℕ} {j : Judge} → Accepts s store j → first (frame_refusals s store j) ≡ 0
unfolding frame_refusals first
frame_accepted {s} {store} {j} a =
    checks_none (past_last j 1 ∷ []) a.found ∙ rw (le-ltb most_frames (tally_of j + 1) (omega (arith, a.few)))

pub frame_answered : {s : Settings} {store : List ℕ} {j : Judge} (f : List ℕ) → Accepts s store j
    → frame_call s store j f ≡ judge_answers 0 (judge_frame s store j f)
unfolding frame_call
frame_answered f a = rw (frame_accepted a)

-- of a record that the rules can reach closing is not refused
close_answered : (s : Settings) (store : List ℕ) (j : Judge) → in_range s ≡ true → s.limit ≤ length store
    → judge_reachable s store j ≡ true → close_call s store j ≡ close_says (closes_with (judge_close j))
unfolding close_call close_rows first
close_answered s store j ok room reach = rw (ok, le-ltb (length store) s.limit room, reach)

-- a record that no frame follows closes with the rules' verdict
close_is_verdict : (s : Settings) (store : List ℕ) (j : Judge) → judge_reachable s store j ≡ true → judge_close j ≡ verdict_from s store j []
unfolding judge_close judged close stands_for is_entered
close_is_verdict s store Open reach = refl
close_is_verdict s store (Sound tally last held) reach =
    go held store (held_fits s store (InStep last held) (sound_reach s store tally last held reach).reach refl)
  where
    go : (h : ℕ) (os : List ℕ) → h ≤ length os → pick (eqb h 0) pass (fault tally) ≡ close tally (take h os)
    go zero os fits = refl
    go (suc h) [] fits = absurd (omega arith)
    go (suc h) (o ∷ os) fits = rw (ne_eqb (suc h) 0 (omega arith))
close_is_verdict s store (Faulty tally at) reach = refl

-- ---- runs

-- calls none of which is refused, over a store of the same length that is written below the limit alone, to a verdict
pub record Ran (s : Settings) (store : List ℕ) (tally : ℕ) (v : Verdict) (r : RunCalls) : Type 0 where
  pub unrefused : All (λ n. n ≡ 0) r.refusals
  pub reach : judge_reachable s r.store r.next ≡ true
  pub counted : tally_of r.next ≡ tally
  pub same_room : length r.store ≡ length store
  pub beyond : drop s.limit r.store ≡ drop s.limit store
  pub comes_to : judge_close r.next ≡ v

-- from any record that the rules can reach, as far as the judge's last frame
pub judge_ran : (s : Settings) (store : List ℕ) (j : Judge) (fs : List (List ℕ)) → in_range s ≡ true → s.limit ≤ length store
    → judge_reachable s store j ≡ true → tally_of j + length fs ≤ most_frames
    → Ran s store (tally_of j + length fs) (verdict_from s store j fs) (judge_calls s store j fs)
unfolding calls
judge_ran s store j [] ok room reach few = record {
  unrefused = tt;
  reach = reach;
  counted = omega arith;
  same_room = refl;
  beyond = refl;
  comes_to = close_is_verdict s store j reach;
}
judge_ran s store j (f ∷ fs) ok room reach few =
    let accepts : Accepts s store j = record { found = record { ranged = ok; room = room; reached = reach }; few = omega arith } in
    let a = judge_advances s store j f accepts in
    let k : Judging = judge_frame s store j f in
    let r = judge_ran s k.store k.next fs ok (omega (arith, a.same_room)) a.reach (omega (arith, a.counted)) in
    rw (frame_answered f accepts) (record {
      unrefused = (refl, r.unrefused);
      reach = r.reach;
      counted = r.counted ∙ omega (arith, a.counted);
      same_room = r.same_room ∙ a.same_room;
      beyond = r.beyond ∙ a.beyond;
      comes_to = r.comes_to ∙ sym (a.same_verdict fs);
    })

-- from nothing, over any store that is long enough
pub run_ran : (s : Settings) (store : List ℕ) (fs : List (List ℕ)) → in_range s ≡ true → s.limit ≤ length store → length fs ≤ most_frames
    → Ran s store (length fs) (verdict s fs) (judge_calls s store Open fs)
unfolding verdict judge_reachable counts_well reachable
run_ran s store fs ok room few = rw (zero-add (length fs)) at (judge_ran s store Open fs ok room refl (omega arith))

-- the calls of a run come to the verdict of the written rules
pub run_is_verdict : (s : Settings) (store : List ℕ) (fs : List (List ℕ)) → in_range s ≡ true → s.limit ≤ length store
    → length fs ≤ most_frames → judge_run s store fs ≡ close_says (closes_with (verdict s fs))
run_is_verdict s store fs ok room few =
    let r = run_ran s store fs ok room few in
    let calls : RunCalls = judge_calls s store Open fs in
    close_answered s calls.store calls.next ok (omega (arith, r.same_room)) r.reach
    ∙ ap (λ (v : Verdict). close_says (closes_with v)) r.comes_to
