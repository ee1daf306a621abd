-- What is shown of the extractor's calls.
use Rattle.std.specs.Prelude.{◌↔◌, ◌≡◌, List, [], ◌∷◌, true, false, suc, ℕ, ◌≤◌, length, drop, Result}
use Rattle.octets.specs.Basics.{and, All, AllOctets, first}
use Rattle.octets.specs.declared.refusals.Refusal.{Refusal}
use Rattle.frames.specs.Frame.{in_range, frame_length}
use Rattle.frames.specs.declared.Edition.TheVariants.{Former}
use Rattle.frames.specs.declared.Settings.{Settings}
use Rattle.extractor.specs.Extract.{fresh, told}
use Rattle.extractor.specs.Records.{reachable, is_entered, stands_for, enter_rows, step_rows, step_call}
use Rattle.extractor.specs.Answers.{EnterSaid, enter_answer, enter_says, StepSaid, step_says}
use Rattle.extractor.specs.Calls.{SpendSaid, spend_says, spend_answer, answers_to, SpentLast, listen}
use Rattle.extractor.specs.Reach.{Reached, Continues, held_goes_on}
use Rattle.extractor.specs.declared.Extractor.{Extractor}
use Rattle.extractor.specs.declared.Extractor.TheVariants.{Fresh, Walking}
use Rattle.extractor.specs.declared.Entering.{Entering}
use Rattle.extractor.specs.declared.Move.{Move}

-- the least zone and the least limit
abbrev pub tight : Settings
tight = record { link = record { spacecraft = 0; channel = 0; trailed = false; edition = Former }; zone = 1; limit = 7; fill = 0 }

-- seven octets of a header of eight
abbrev pub seven_held : List ℕ
seven_held = 0xE3 ∷ 0 ∷ 0 ∷ 0 ∷ 0 ∷ 0 ∷ 0 ∷ []

-- settings in range, and a store that is long enough for them
abbrev pub Fit : Settings → List ℕ → Type 0
Fit s store = (in_range s ≡ true) × (s.limit ≤ length store)

-- From a fresh record, with each frame stepped as it was entered and nothing touched in between, entering and stepping say of
-- every frame of any run what the rules say: its refusal, or its count, replay, lost, dropped, reason and damage, every event with the
-- octets that `show` hands back, and the state after it.
abbrev pub SaysTheRules : Type 0
SaysTheRules = (s : Settings) (store : List ℕ) (fs : List (List ℕ)) → Fit s store → (listen s Fresh store fs).told ≡ told s fresh fs

-- the same from any record that passes the test for refusal 10, between frames
abbrev pub SaysThemOn : Type 0
SaysThemOn = (s : Settings) (x : Extractor) (store : List ℕ) (fs : List (List ℕ)) → Fit s store
    → reachable s store x ≡ true → is_entered x ≡ false → (listen s x store fs).told ≡ told s (stands_for store x) fs

-- A frame that is entered is spent within Z + 1 steps, and none of them is refused, whatever frames of the right length they are lent.
abbrev pub SpendsInTime : Type 0
SpendsInTime = (s : Settings) (x : Extractor) (store f : List ℕ) (gs : List (List ℕ)) → first (enter_rows s x store f) ≡ 0
    → All (λ (g : List ℕ). length g ≡ frame_length s) gs → length gs ≡ suc s.zone
    → SpentLast (answers_to s (enter_answer s x store f).next store gs)

-- Every record that a call hands back, but for a refusal, passes the test for refusal 10 over the store that it leaves, whatever
-- frame was stepped; and the store has its length and its octets from the limit on.
pub record KeepsToTheTest : Type 0 where
  pub entering : (s : Settings) (x : Extractor) (store f : List ℕ) → first (enter_rows s x store f) ≡ 0
      → reachable s store (enter_answer s x store f).next ≡ true
  pub stepping : (s : Settings) (x : Extractor) (store f : List ℕ) → first (step_rows s x store f) ≡ 0
      → reachable s (step_call s x store f).store (step_call s x store f).next ≡ true
  pub length_kept : (s : Settings) (x : Extractor) (store f : List ℕ) → length (step_call s x store f).store ≡ length store
  pub far_kept : (s : Settings) (x : Extractor) (store f : List ℕ) → drop s.limit (step_call s x store f).store ≡ drop s.limit store
  pub spending : (s : Settings) (x : Extractor) (store f : List ℕ) → first (step_rows s x store f) ≡ 0
      → reachable s (spend_answer s x store f).store (spend_answer s x store f).next ≡ true
  pub length_spent : (s : Settings) (x : Extractor) (store f : List ℕ) → length (spend_answer s x store f).store ≡ length store
  pub far_spent : (s : Settings) (x : Extractor) (store f : List ℕ) → drop s.limit (spend_answer s x store f).store ≡ drop s.limit store

-- Calls lead exactly to the records that pass the test, but for those whose octets no zone can continue.
abbrev pub ReachesAll : Type 0
ReachesAll = (s : Settings) (x : Extractor) (store : List ℕ) → Fit s store → AllOctets store
    → Reached s x store ↔ ((reachable s store x ≡ true) × Continues s store x)

-- The same by a test that computes; and the exception is real: seven octets of the longest header, held before a zone with M = 7.
pub record Exceptions : Type 0 where
  pub by_test : (s : Settings) (x : Extractor) (store : List ℕ) → Fit s store → AllOctets store
      → Reached s x store ↔ (and (reachable s store x) (held_goes_on s store x) ≡ true)
  pub passes : reachable tight seven_held (Walking 0 7 0) ≡ true
  pub not_reached : Reached tight (Walking 0 7 0) seven_held → ⊥

-- Two outcomes that meet a promise are equal: the answer, the record and every octet of the store.
pub record Determined : Type 0 where
  pub entering : (y : Extractor) {a b : Result Entering Refusal} {x : EnterSaid} → enter_says y a ≡ x → enter_says y b ≡ x → a ≡ b
  pub stepping : (y : Extractor) (f : List ℕ) {a b : Result Move Refusal} {p q : List ℕ} {x : StepSaid} → step_says y a f p ≡ x → step_says y b f q ≡ x
      → (a ≡ b) × (p ≡ q)
  pub spending : (y : Extractor) {a b : Result Extractor Refusal} {p q : List ℕ} {x : SpendSaid} → spend_says y a p ≡ x → spend_says y b q ≡ x
      → (a ≡ b) × (p ≡ q)
