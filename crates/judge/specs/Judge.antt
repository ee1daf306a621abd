-- The judge's written rules: what a fault is, and the verdict on a run.
use Rattle.std.specs.Prelude.{ℕ, ◌+◌, List, [], ◌∷◌, Bool, not, eqb}
use Rattle.std.proofs.Math.Option.{none}
use Rattle.octets.specs.Basics.{pick, or, first}
use Rattle.frames.specs.Frame.{frame_rows}
use Rattle.frames.specs.declared.Settings.{Settings}
use Rattle.extractor.specs.Extract.{State, in_step, member, held_of, any_torn, take_in}

-- the judge's start: in step, nothing held, no last count
abbrev pub opened : State
opened = record { last = none; step = in_step [] }

-- the refusals of a frame that the judge treats as faults
unfoldable pub is_fault : ℕ → Bool
is_fault n = member n (3 ∷ 13 ∷ 4 ∷ 5 ∷ 6 ∷ 7 ∷ [])

-- a fault that is seen before the first step: a refusal, frames missing, or a reason to drop what is held
unfoldable pub faulty_entry : Settings → State → List ℕ → Bool
faulty_entry s x f =
    or (is_fault (first (frame_rows s f))) (or (not (eqb (take_in s x f).lost 0)) (not (eqb (take_in s x f).reason 0)))

-- a fault: such a one, or a damaged step
unfoldable pub faulty : Settings → State → List ℕ → Bool
faulty s x f = or (faulty_entry s x f) (any_torn (take_in s x f).events)

pub data Verdict : Type 0 where
  pass : Verdict
  fault : ℕ → Verdict

-- the close after n frames with no fault: octets that are still held are one
unfoldable pub close : ℕ → List ℕ → Verdict
close n [] = pass
close n (o ∷ os) = fault n

-- the verdict on the frames from number n on
unfoldable pub judged : Settings → ℕ → State → List (List ℕ) → Verdict
judged s n x [] = close n (held_of x.step)
judged s n x (f ∷ fs) = pick (faulty s x f) (fault n) (judged s (n + 1) (take_in s x f).state fs)

-- the verdict on a run
unfoldable pub verdict : Settings → List (List ℕ) → Verdict
verdict s fs = judged s 0 opened fs
