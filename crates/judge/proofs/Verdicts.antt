-- The verdict frame by frame: a frame that passes leaves it to the frames after it.
-- Assumes nothing.
use mathlib.Core.Path.{◌≡◌}
use mathlib.Core.List.{List, [], ◌∷◌, ◌++◌}
use mathlib.Core.Option.{Option, some}
use Prim.Native.Nat.{ℕ, ◌+◌}
use borrow.Author.Tests.{eq-eqb, ne_eqb}
use Rattle.octets.proofs.Choices.{apart, picked}
use Rattle.frames.specs.Frame.{idle_zone, zone_of, pointer, count}
use Rattle.frames.specs.declared.Settings.{Settings}
use Rattle.extractor.specs.Extract.{State, in_step, Walked, ends, walk, walked, take_in}
use Rattle.judge.specs.Judge.{pass, fault, faulty, judged}
use Rattle.judge.proofs.Faults.{Passes, entered_state, sound_passes, passes_sound}

-- ---- the walk of a zone, in step

pub walked_idle : (s : Settings) (held f : List ℕ) → pointer s f ≡ idle_zone → walked s (in_step held) f ≡ ends [] (in_step held)
unfolding walked
walked_idle s held f e = rw (eq-eqb (pointer s f) idle_zone e)

pub walked_data : (s : Settings) (held f : List ℕ) → (pointer s f ≡ idle_zone → ⊥) → walked s (in_step held) f ≡ walk s.limit (held ++ zone_of s f)
unfolding walked
walked_data s held f h = rw (ne_eqb (pointer s f) idle_zone h)

-- ---- the verdict

-- a state that is in step, with these octets held
abbrev pub in_step_with : Option ℕ → List ℕ → State
in_step_with last held = record { last = last; step = in_step held }

-- the state after the walk of a frame
abbrev pub walked_to : Settings → List ℕ → Walked → State
walked_to s f w = record { last = some (count s f); step = w.leaves }

pub judged_step : (s : Settings) (n : ℕ) (x : State) (f : List ℕ) (fs : List (List ℕ)) → Passes s x f
    → judged s n x (f ∷ fs) ≡ judged s (n + 1) (walked_to s f (walked s x.step f)) fs
unfolding judged
judged_step s n x f fs h = rw (passes_sound s x f h, entered_state h.enters)

-- a run that passes: its first frame does, and so does the run after it
pub judged_passes : (s : Settings) (n : ℕ) (x : State) (f : List ℕ) (fs : List (List ℕ)) → judged s n x (f ∷ fs) ≡ pass → Passes s x f
unfolding judged
judged_passes s n x f fs e = picked (faulty s x f) (fault n) _ e (λ t q. apart (cc)) (λ t q. sound_passes s x f t)

pub judged_rest : (s : Settings) (n : ℕ) (x : State) (f : List ℕ) (fs : List (List ℕ)) → judged s n x (f ∷ fs) ≡ pass
    → judged s (n + 1) (take_in s x f).state fs ≡ pass
unfolding judged
judged_rest s n x f fs e = picked (faulty s x f) (fault n) _ e (λ t q. apart (cc)) (λ t q. q)
