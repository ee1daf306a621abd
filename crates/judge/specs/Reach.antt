-- Which records a judge's calls lead to.
use Rattle.std.specs.Prelude.{◌↔◌, ◌≡◌, List, true, ℕ}
use Rattle.octets.specs.Basics.{AllOctets}
use Rattle.frames.specs.declared.Settings.{Settings}
use Rattle.extractor.specs.Statements.{Fit}
use Rattle.judge.specs.Calls.{judge_reachable, frame_call}
use Rattle.judge.specs.Tapes.{tape_call}
use Rattle.judge.specs.declared.Judge.{Judge}
use Rattle.judge.specs.declared.Judge.TheVariants.{Open}

-- any calls, from nothing on, refused or not, with any frames and any tapes, record and store handed on
pub data Reached (s : Settings) : Judge → List ℕ → Type 0 where
  begins : {store : List ℕ} → Reached s Open store
  judges : {j : Judge} {store : List ℕ} (f : List ℕ) → AllOctets f → Reached s j store
      → Reached s (frame_call s store j f).next (frame_call s store j f).store
  plays : {j : Judge} {store : List ℕ} (t : List ℕ) → AllOctets t → Reached s j store
      → Reached s (tape_call s store j t).next (tape_call s store j t).store

-- Calls lead exactly to the records that pass the test for refusal 10. A judge's record stands between frames, so that no zone
-- need go on with what it holds.
abbrev pub ReachesAll : Type 0
ReachesAll = (s : Settings) (j : Judge) (store : List ℕ) → Fit s store → AllOctets store
    → Reached s j store ↔ (judge_reachable s store j ≡ true)
