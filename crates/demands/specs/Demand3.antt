-- Demand 3, of the calls themselves: the judge's, with its records, its store and its close, and a fresh extractor's.
use Rattle.std.specs.Prelude.{ℕ, suc, ◌≤◌, ◌↔◌, ◌≡◌, List, [], ◌∷◌, true, false, length}
use Rattle.octets.specs.Basics.{All}
use Rattle.frames.specs.Frame.{in_range, most_frames}
use Rattle.frames.specs.declared.Settings.{Settings}
use Rattle.extractor.specs.Extract.{marked, any_torn, events_in}
use Rattle.extractor.specs.Answers.{EnterNumbers, EnterSaid, enter_answer}
use Rattle.extractor.specs.Calls.{Finds, steps, SpentLast, listen}
use Rattle.extractor.specs.declared.Extractor.{Extractor}
use Rattle.extractor.specs.declared.Extractor.TheVariants.{Fresh}
use Rattle.judge.specs.Judge.{verdict}
use Rattle.judge.specs.Calls.{close_says, closes_with, judge_calls, judge_run}
use Rattle.judge.specs.Tapes.{tape_calls, tape_run, CutInto}
use Rattle.judge.specs.Statements.{LeaveTheSame}
use Rattle.judge.specs.declared.Judge.TheVariants.{Open}
use Rattle.carries.specs.Carries.{Carries}

-- all goes well with a frame: it is entered with nothing lost and nothing dropped, no step is refused or damaged, and the last spends it
pub record Smooth (entered : EnterNumbers) (t : Finds) : Type 0 where
  pub accepted : entered.refusal ≡ 0
  pub none_lost : entered.lost ≡ 0
  pub none_dropped : entered.dropped ≡ 0
  pub no_reason : entered.reason ≡ 0
  pub undamaged : any_torn t.events ≡ false
  pub spent : SpentLast t.found

-- and with a run, frame after frame, record and store handed on
unfoldable pub SmoothRun : Settings → Extractor → List ℕ → List (List ℕ) → Type 0
SmoothRun s x store [] = Unit {0}
SmoothRun s x store (f ∷ fs) =
    let e : EnterSaid = enter_answer s x store f in
    let t : Finds = steps s f (suc s.zone) e.next store in
    Smooth e.answer t × SmoothRun s t.next t.store fs

-- a fresh extractor, lent this store and fed the run, hands over exactly these packets, idle ones marked
pub record HandsOver (s : Settings) (store : List ℕ) (fs ps : List (List ℕ)) : Type 0 where
  pub smooth : SmoothRun s Fresh store fs
  pub exactly : events_in (listen s Fresh store fs).told ≡ marked ps

-- The judge, lent this store, refuses neither a frame nor the close, comes to the verdict of the written rules with the index of the first
-- fault, and passes the run exactly when some list is carried. That list is then the only one, and an extractor with any store that is
-- long enough hands it over. In tapes, cut anywhere between two frames, the run comes to the same: none is refused, and they leave the same
-- record and the same store.
pub record Judges (s : Settings) (store : List ℕ) (fs : List (List ℕ)) : Type 0 where
  pub frames_accepted : All (λ n. n ≡ 0) (judge_calls s store Open fs).refusals
  pub close_accepted : (judge_run s store fs).refusal ≡ 0
  pub verdict_is : judge_run s store fs ≡ close_says (closes_with (verdict s fs))
  pub passes_exactly : ((judge_run s store fs).passes ≡ true) ↔ ((ps : List (List ℕ)) × Carries s fs ps)
  pub only : (ps qs : List (List ℕ)) → Carries s fs ps → Carries s fs qs → ps ≡ qs
  pub handed_over : (ps : List (List ℕ)) → Carries s fs ps → (lent : List ℕ) → s.limit ≤ length lent → HandsOver s lent fs ps
  pub in_tapes : (ts : List (List ℕ)) → CutInto s fs ts → LeaveTheSame (tape_calls s store Open ts) (judge_calls s store Open fs)
  pub tapes_close : (ts : List (List ℕ)) → CutInto s fs ts → tape_run s store ts ≡ judge_run s store fs

-- so for all settings in range, any store that is long enough, whatever it holds, and every run up to the judge's last frame
abbrev pub Demand3 : Type 0
Demand3 = (s : Settings) (store : List ℕ) (fs : List (List ℕ)) → in_range s ≡ true → s.limit ≤ length store
    → length fs ≤ most_frames → Judges s store fs
