-- The steps of a frame come to an end, whatever record they set out from.
-- Assumes nothing.
use mathlib.Core.Path.{◌≡◌, refl, sym, ap, subst⁻¹, ◌∙◌}
use mathlib.Core.List.{List}
use mathlib.Core.Bool.{Bool, true, false}
use Prim.Native.Nat.{ℕ, ◌+◌, ◌-◌, ◌<◌}
use native.Mathlib.Omega.{arith}
use lib.Dec.{eqb, leb}
use borrow.Author.Tests.{eqb-true, not-false}
use Rattle.std.specs.Prelude.{Ok, not}
use Rattle.octets.specs.Basics.{and, first}
use Rattle.octets.proofs.Choices.{apart}
use Rattle.octets.proofs.Tests.{test}
use Rattle.frames.specs.declared.Settings.{Settings}
use Rattle.extractor.specs.Records.{step_rows, step_call, Stepped}
use Rattle.extractor.specs.Answers.{StepSaid, found_numbers, as_found, step_says, step_answer}
use Rattle.extractor.specs.Calls.{goes_on}
use Rattle.extractor.specs.declared.Extractor.{Extractor}
use Rattle.extractor.specs.declared.Extractor.TheVariants.{Fresh, Astray, InStep, Walking, Leaving}
use Rattle.extractor.specs.Found.{Found, Refused, InFrame, InStore, Damaged, Spent}
use Rattle.extractor.specs.declared.Move.{Move}
use Rattle.extractor.proofs.Turns.{Turn, leave, keep, break, give, turn}
use Rattle.extractor.proofs.Unrefused.{moves}

-- more steps than a record can still take
unfoldable pub left : Settings → Extractor → ℕ
left s Fresh = 0
left s (Astray last) = 0
left s (InStep last h) = 0
left s (Walking last h at) = s.zone - at + 2
left s (Leaving last) = 1

turn_less : (s : Settings) (f store : List ℕ) {x : Extractor} {w : Stepped} → Turn s f store x w → goes_on w.found ≡ true
    → left s w.next < left s x
unfolding left
turn_less s f store leave on = apart (cc)
turn_less s f store (keep begun fits) on = apart (cc)
turn_less s f store (break e h) on = omega arith
turn_less s f store (give p e fits seen rest later inside same beyond) on = omega arith

-- whether an answer is of a packet or of damage, by the number of its outcome
abbrev finds : ℕ → Bool
finds outcome = and (leb 1 outcome) (leb outcome 3)

goes_on_told : (f store : List ℕ) (a : Found) → goes_on a ≡ finds (found_numbers f store a).outcome
unfolding found_numbers
goes_on_told f store (Refused n) = refl
goes_on_told f store (InFrame start size true) = refl
goes_on_told f store (InFrame start size false) = refl
goes_on_told f store (InStore size true) = refl
goes_on_told f store (InStore size false) = refl
goes_on_told f store (Damaged d) = refl
goes_on_told f store Spent = refl

module _ (s : Settings) (x : Extractor) (store f : List ℕ) where
  call_less : goes_on (step_call s x store f).found ≡ true → left s (step_call s x store f).next < left s x
  unfolding step_call
  call_less on =
      test (eqb (first (step_rows s x store f)) 0)
      (λ t. let m = moves s x store f (eqb-true _ 0 t) in
      rw t (turn_less s f store (turn s f store m.ranged m.framed m.room x m.reached m.underway) (rw t at on)))
      (λ t. let off : false ≡ true = rw t at on in apart (cc))

  -- a step that is not the last leaves fewer
  pub step_less : (m : Move) (st : List ℕ) → step_says x (Ok m) f st ≡ step_answer s x store f → not (goes_on (as_found m.found)) ≡ false
      → left s m.next < left s x
  unfolding step_answer
  step_less m st told more =
      let w : Stepped = step_call s x store f in
      let going : goes_on w.found ≡ true =
      goes_on_told f w.store w.found ∙ sym (ap (λ (n : StepSaid). finds n.answer.outcome) told) ∙ sym (goes_on_told f st (as_found m.found)) ∙ not-false _ more in
      subst⁻¹ (λ (y : Extractor). left s y < left s x) (ap (λ (n : StepSaid). n.next) told) (call_less going)
