-- Demand 3: the judge's calls come to the rules' verdict, and the extractor's hear what the rules hear.
-- Assumes nothing.
use mathlib.Core.Path.{◌≡◌, refl, sym, ap, ◌∙◌}
use mathlib.Core.List.{List, [], ◌∷◌}
use mathlib.Core.Bool.{true, false}
use Prim.Native.Nat.{ℕ, suc, ◌+◌, ◌≤◌}
use native.Mathlib.Omega.{arith}
use lib.ListN.{length}
use Rattle.octets.proofs.Choices.{apart}
use Rattle.frames.specs.Frame.{in_range, most_frames}
use Rattle.frames.specs.declared.Settings.{Settings}
use Rattle.extractor.specs.Extract.{State, fresh, any_torn, take_in}
use Rattle.extractor.specs.Records.{reachable, is_entered, stands_for, enter}
use Rattle.extractor.specs.Answers.{said_numbers, entered_as, enter_answer}
use Rattle.extractor.specs.Calls.{Finds, steps}
use Rattle.extractor.specs.declared.Extractor.{Extractor}
use Rattle.extractor.specs.declared.Extractor.TheVariants.{Fresh}
use Rattle.extractor.proofs.Listens.{entering_refusal, listen_heard}
use Rattle.extractor.proofs.Settles.{Settles, steps_are_events}
use Rattle.judge.specs.Judge.{opened, Verdict, pass, fault, close, judged, verdict}
use Rattle.judge.specs.Calls.{counts_well, judge_reachable, Judging, close_says, closes_with, close_call, judge_calls}
use Rattle.judge.specs.Tapes.{tape_calls, CutInto}
use Rattle.judge.specs.Statements.{LeaveTheSame}
use Rattle.judge.specs.declared.Judge.TheVariants.{Open}
use Rattle.judge.proofs.Faults.{no_reason, entered_events, Passes}
use Rattle.judge.proofs.Runs.{run_ran, run_is_verdict}
use Rattle.judge.proofs.Tapes.{tapes_are_frames}
use Rattle.judge.proofs.Verdicts.{walked_to, judged_step, judged_passes, judged_rest}
use Rattle.carries.specs.Carries.{Carries}
use Rattle.demands.specs.Demand3.{Smooth, SmoothRun, HandsOver, Demand3}
use Rattle.carries.proofs.Judging.{AsFresh, passes_fresh, judged_right}

-- ---- the extractor's calls with a run that passes

module _ (s : Settings) (ok : in_range s ≡ true) where
  -- a frame that passes, between frames, over a store that is long enough
  module _ (x : Extractor) (store f : List ℕ) (room : s.limit ≤ length store) (reach : reachable s store x ≡ true)
      (between : is_entered x ≡ false) (h : Passes s (stands_for store x) f) where
    abbrev before : State
    before = stands_for store x

    abbrev through : Finds
    through = steps s f (suc s.zone) (enter s before f) store

    entered_so : enter_answer s x store f ≡ entered_as s x store f
    unfolding enter_answer
    entered_so = rw (entering_refusal s x store f ok room reach between ∙ h.enters.accepted)

    settles : Settles s store (take_in s before f).events (take_in s before f).state through
    settles = steps_are_events s f store x ok h.enters.accepted room reach between

    smooth_frame : Smooth (said_numbers (take_in s before f)) through
    unfolding take_in
    smooth_frame = record {
      accepted = refl;
      none_lost = h.enters.lost;
      none_dropped = rw (no_reason h.enters);
      no_reason = no_reason h.enters;
      undamaged = ap any_torn (settles.says ∙ entered_events h.enters) ∙ h.untorn;
      spent = settles.closes;
    }

  smooth_run : (n : ℕ) (x : Extractor) (store : List ℕ) (fs : List (List ℕ)) → s.limit ≤ length store → reachable s store x ≡ true
      → is_entered x ≡ false → judged s n (stands_for store x) fs ≡ pass → SmoothRun s x store fs
  unfolding SmoothRun
  smooth_run n x store [] room reach between e = tt
  smooth_run n x store (f ∷ fs) room reach between e =
      let h : Passes s (stands_for store x) f = judged_passes s n (stands_for store x) f fs e in
      let r = settles x store f room reach between h in
      let t : Finds = steps s f (suc s.zone) (enter s (stands_for store x) f) store in
      rw (entered_so x store f room reach between h) (
        smooth_frame x store f room reach between h,
        smooth_run (n + 1) t.next t.store fs (omega (arith, r.keeps.same_room)) r.keeps.reach r.keeps.stage
            (ap (λ (y : State). judged s (n + 1) y fs) r.leaves ∙ judged_rest s n (stands_for store x) f fs e),
      )

-- a run that passes would pass from a fresh extractor's state too
judged_fresh : (s : Settings) (fs : List (List ℕ)) → verdict s fs ≡ pass → judged s 0 fresh fs ≡ pass
unfolding verdict judged close
judged_fresh s [] e = refl
judged_fresh s (f ∷ fs) e =
    let h : Passes s opened f = judged_passes s 0 opened f fs e in
    let r : AsFresh s f = passes_fresh s f h in
    judged_step s 0 fresh f fs r.passes
    ∙ ap (λ v. judged s 1 (walked_to s f v) fs) r.same
    ∙ sym (judged_step s 0 opened f fs h)
    ∙ e

smooth_fresh : (s : Settings) (store : List ℕ) (fs : List (List ℕ)) → in_range s ≡ true → s.limit ≤ length store → verdict s fs ≡ pass
    → SmoothRun s Fresh store fs
unfolding reachable is_entered stands_for
smooth_fresh s store fs ok room e = smooth_run s ok 0 Fresh store fs room refl refl (judged_fresh s fs e)

-- what is carried is handed over, however long the run
pub hands_over : (s : Settings) (store : List ℕ) (fs : List (List ℕ)) → in_range s ≡ true → s.limit ≤ length store
    → (ps : List (List ℕ)) → Carries s fs ps → HandsOver s store fs ps
hands_over s store fs ok room ps c =
    let d = judged_right s ok fs in
    record {
      smooth = smooth_fresh s store fs ok room (d.complete ps c);
      exactly = listen_heard s store fs ok room ∙ d.handed_over ps c;
    }

-- ---- what closing answers

closed_pass : (v : Verdict) → (close_says (closes_with v)).passes ≡ true → v ≡ pass
unfolding close_says closes_with
closed_pass pass e = refl
closed_pass (fault k) e = apart (cc)

closed_accepted : (v : Verdict) → (close_says (closes_with v)).refusal ≡ 0
unfolding close_says closes_with
closed_accepted pass = refl
closed_accepted (fault k) = refl

pass_passes : (close_says (closes_with pass)).passes ≡ true
unfolding close_says closes_with
pass_passes = refl

-- ---- demand 3

-- a fresh judge's tapes
taped : (s : Settings) (store : List ℕ) (fs ts : List (List ℕ)) → in_range s ≡ true → s.limit ≤ length store → length fs ≤ most_frames
    → CutInto s fs ts → LeaveTheSame (tape_calls s store Open ts) (judge_calls s store Open fs)
unfolding judge_reachable counts_well reachable
taped s store fs ts ok room few = tapes_are_frames.anywhere s store Open fs ts (ok, room) refl (omega arith)

pub demand_3 : Demand3
demand_3 s store fs ok room few =
    let d = judged_right s ok fs in
    let answers = run_is_verdict s store fs ok room few in
    record {
      frames_accepted = (run_ran s store fs ok room few).unrefused;
      close_accepted = rw answers (closed_accepted (verdict s fs));
      verdict_is = answers;
      passes_exactly = (
        (λ e. d.sound (closed_pass (verdict s fs) (rw answers at e))),
        (λ c. rw (answers, d.complete c.0 c.1) pass_passes),
      );
      only = d.only;
      handed_over = λ ps c lent wide. hands_over s lent fs ok wide ps c;
      in_tapes = λ ts c. taped s store fs ts ok room few c;
      tapes_close = λ ts c. ap (λ (k : Judging). close_call s k.store k.next) (taped s store fs ts ok room few c).same;
    }
