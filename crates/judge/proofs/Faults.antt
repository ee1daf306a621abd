-- What is a fault, and what a frame without one is like.
-- Assumes nothing.
use mathlib.Core.Path.{◌≡◌, refl, sym, ap, ◌∙◌}
use mathlib.Core.List.{List, [], ◌∷◌}
use mathlib.Core.Option.{some}
use mathlib.Core.Bool.{true, false, not}
use Prim.Native.Nat.{ℕ, zero, suc}
use native.Mathlib.Omega.{arith}
use lib.Dec.{eqb}
use borrow.Author.Tests.{eqb-true, eq-eqb, ne_eqb, not-false}
use Rattle.octets.specs.Basics.{All, first, Row}
use Rattle.octets.proofs.Choices.{or_false}
use Rattle.octets.proofs.Tests.{test}
use Rattle.frames.specs.Frame.{frame_rows, count}
use Rattle.frames.specs.Link.{header_rows}
use Rattle.frames.specs.declared.Settings.{Settings}
use Rattle.extractor.specs.Extract.{State, any_torn, reason_in, lost_since, reason_of, step_of, walked, take_in}
use Rattle.judge.specs.Judge.{is_fault, faulty_entry, faulty}

-- ---- refusals

fault_some : (n : ℕ) → is_fault n ≡ true → eqb n 0 ≡ false
unfolding is_fault
fault_some zero e = sym e
fault_some (suc n) e = ne_eqb (suc n) 0 (omega arith)

-- of a table whose every number is a fault, a refusal is a fault, and nothing else is
faults_only : (rs : List Row) → All (λ r. is_fault r.refusal ≡ true) rs → is_fault (first rs) ≡ not (eqb (first rs) 0)
unfolding first is_fault
faults_only [] k = refl
faults_only (r ∷ rs) k =
    test r.holds
    (λ t. rw t (k.0 ∙ ap not (sym (fault_some r.refusal k.0))))
    (λ t. rw t (faults_only rs k.1))

-- every refusal of a frame is a fault
pub frame_refusal_faults : (s : Settings) (f : List ℕ) → is_fault (first (frame_rows s f)) ≡ not (eqb (first (frame_rows s f)) 0)
unfolding is_fault frame_rows header_rows
frame_refusal_faults s f = faults_only (frame_rows s f) (refl, (refl, (refl, (refl, (refl, (refl, tt))))))

pub refused_faulty : (s : Settings) (x : State) (f : List ℕ) → eqb (first (frame_rows s f)) 0 ≡ false → faulty_entry s x f ≡ true
unfolding faulty_entry
refused_faulty s x f e = rw (frame_refusal_faults s f, e) refl

-- ---- a frame with no fault before its first step

pub record Enters (s : Settings) (x : State) (f : List ℕ) : Type 0 where
  pub accepted : first (frame_rows s f) ≡ 0
  pub lost : lost_since s x.last (count s f) ≡ 0
  pub reason : reason_in s x.step f ≡ 0

reason_within : (s : Settings) (x : State) (f : List ℕ) → lost_since s x.last (count s f) ≡ 0 → reason_of s x f ≡ reason_in s x.step f
unfolding reason_of
reason_within s x f e = rw (eq-eqb (lost_since s x.last (count s f)) 0 e) refl

none : (n : ℕ) → not (eqb n 0) ≡ false → n ≡ 0
none n e = eqb-true n 0 (not-false (eqb n 0) e)

pub entered : (s : Settings) (x : State) (f : List ℕ) → faulty_entry s x f ≡ false → Enters s x f
unfolding faulty_entry take_in
entered s x f e =
    let a = or_false (is_fault (first (frame_rows s f))) _ e in
    let b = or_false (not (eqb (lost_since s x.last (count s f)) 0)) _ a.1 in
    let lost : lost_since s x.last (count s f) ≡ 0 = none (lost_since s x.last (count s f)) b.0 in
    record {
      accepted = none (first (frame_rows s f)) (sym (frame_refusal_faults s f) ∙ a.0);
      lost = lost;
      reason = sym (reason_within s x f lost) ∙ none (reason_of s x f) b.1;
    }

module _ {s : Settings} {x : State} {f : List ℕ} (h : Enters s x f) where
  pub no_reason : reason_of s x f ≡ 0
  no_reason = reason_within s x f h.lost ∙ h.reason

  pub entered_faultless : faulty_entry s x f ≡ false
  unfolding faulty_entry take_in
  entered_faultless =
      rw (
        frame_refusal_faults s f,
        eq-eqb (first (frame_rows s f)) 0 h.accepted,
        eq-eqb (lost_since s x.last (count s f)) 0 h.lost,
        eq-eqb (reason_of s x f) 0 no_reason,
      ) refl

  -- the zone is walked from the step as it stood
  pub step_kept : step_of s x f ≡ x.step
  unfolding step_of
  step_kept = rw (eq-eqb (reason_of s x f) 0 no_reason) refl

  pub entered_events : (take_in s x f).events ≡ (walked s x.step f).events
  unfolding take_in
  entered_events = ap (λ t. (walked s t f).events) step_kept

  pub entered_state : (take_in s x f).state ≡ record { last = some (count s f); step = (walked s x.step f).leaves }
  unfolding take_in
  entered_state = ap (λ t. record { last = some (count s f); step = (walked s t f).leaves }) step_kept

-- ---- a frame with no fault

pub record Passes (s : Settings) (x : State) (f : List ℕ) : Type 0 where
  pub enters : Enters s x f
  pub untorn : any_torn (walked s x.step f).events ≡ false

pub sound_passes : (s : Settings) (x : State) (f : List ℕ) → faulty s x f ≡ false → Passes s x f
unfolding faulty
sound_passes s x f e =
    let (well, untorn) = or_false (faulty_entry s x f) _ e in
    let h = entered s x f well in
    record { enters = h; untorn = sym (ap any_torn (entered_events h)) ∙ untorn }

pub passes_sound : (s : Settings) (x : State) (f : List ℕ) → Passes s x f → faulty s x f ≡ false
unfolding faulty
passes_sound s x f p = rw (entered_faultless p.enters, entered_events p.enters) p.untorn
