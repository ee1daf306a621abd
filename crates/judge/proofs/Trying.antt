-- Frame n of a run that had no fault before it: what entering answers decides, or the steps do.
-- Assumes nothing.
use mathlib.Core.Path.{◌≡◌, refl, sym, ap, ◌∙◌}
use mathlib.Core.List.{List}
use mathlib.Core.Bool.{Bool, true, false, not}
use Prim.Native.Nat.{ℕ}
use lib.Dec.{eqb}
use Rattle.octets.specs.Basics.{or, first}
use Rattle.frames.specs.Frame.{frame_rows}
use Rattle.frames.specs.declared.Settings.{Settings}
use Rattle.extractor.specs.Records.{stands_for, enter_rows}
use Rattle.std.specs.Prelude.{Option, None, Some, Result, Ok, Err, is_some}
use Rattle.std.specs.Result.{result_unwrap_or}
use Rattle.octets.specs.Refusals.{number_of}
use Rattle.octets.specs.declared.refusals.Refusal.{Refusal}
use Rattle.extractor.specs.Answers.{reason_number, entering_says, refused_enter, enter_answer}
use Rattle.extractor.specs.Calls.{through, spend_says}
use Rattle.extractor.specs.declared.Extractor.{Extractor}
use Rattle.extractor.specs.declared.Reason.{Reason}
use Rattle.extractor.specs.declared.Entering.{Entering}
use Rattle.extractor.proofs.Listens.{entering_refusal}
use Rattle.judge.specs.Judge.{is_fault, faulty_entry}
use Rattle.judge.specs.Calls.{judging, faults_at, try_frame}
use Rattle.judge.specs.Trials.{Tries, goes_on_from}
use Rattle.judge.proofs.Entering.{refused_row, taken_as}
use Rattle.judge.proofs.Endings.{not_entered, trial_ended}
use Rattle.judge.proofs.Faults.{refused_faulty}

-- a reason is none but where its number is 0
some_reason : (r : Option Reason) → is_some r ≡ not (eqb (reason_number r) 0)
some_reason None = refl
some_reason (Some Reason.FramesMissing) = refl
some_reason (Some Reason.PointerDiffers) = refl
some_reason (Some (Reason.HeaderDamaged d)) = refl

-- the record that spending leaves, refused or not
pub spent_next : (x : Extractor) (r : Result Extractor Refusal) (st : List ℕ) → (spend_says x r st).next ≡ result_unwrap_or r x
spent_next x (Ok next) st = refl
spent_next x (Err k) st = refl

pub spent_store : (x : Extractor) (r : Result Extractor Refusal) (st : List ℕ) → (spend_says x r st).store ≡ st
spent_store x (Ok next) st = refl
spent_store x (Err k) st = refl

module _ {s : Settings} {n : ℕ} {x : Extractor} {store : List ℕ} (t : Tries s n x store) (f : List ℕ) where
  -- only what is wrong with the frame can be refused
  its_row : first (enter_rows s x store f) ≡ first (frame_rows s f)
  its_row = entering_refusal s x store f t.ranged t.room t.reached (not_entered t f)

  -- a refusal
  pub refused_tried : (k : Refusal) → refused_enter x (number_of k) ≡ enter_answer s x store f → judging (faults_at n) store ≡ try_frame s n (stands_for store x) store f
  unfolding try_frame
  refused_tried k told =
      rw (refused_faulty s (stands_for store x) f (sym (ap (λ (m : ℕ). eqb m 0) its_row) ∙ refused_row s x store f k told)) refl

  module _ (r : Entering) (told : entering_says r ≡ enter_answer s x store f) where
    -- what the judge looks at in the answer
    abbrev pub marked : Bool
    marked = or (not (eqb r.entry.lost 0)) (is_some r.entry.reason)

    frame_accepted : first (frame_rows s f) ≡ 0
    frame_accepted = sym its_row ∙ (taken_as s x store f r told).accepted

    entry_faulty : faulty_entry s (stands_for store x) f ≡ marked
    unfolding faulty_entry is_fault
    entry_faulty =
        let k = taken_as s x store f r told in
        rw (frame_accepted, some_reason r.entry.reason, k.lost, k.reason) refl

    pub marked_tried : marked ≡ true → judging (faults_at n) store ≡ try_frame s n (stands_for store x) store f
    unfolding try_frame
    marked_tried m = rw (entry_faulty, m) refl

    -- the record that the steps then leave decides
    pub unmarked_tried : marked ≡ false
        → judging (goes_on_from n (through s f r.next store).next) (through s f r.next store).store ≡ try_frame s n (stands_for store x) store f
    unfolding try_frame
    unmarked_tried m = rw ((taken_as s x store f r told).next, entry_faulty, m) (trial_ended t f (entry_faulty ∙ m))
