-- What a step is refused for, what it answers, and the store that it leaves; and the same of a frame that is spent.
use Rattle.std.specs.Prelude.{ℕ, ◌≡◌, List, [], ◌∷◌, ◌++◌, map}
use Rattle.frames.specs.declared.Settings.{Settings}
use Rattle.extractor.specs.Answers.{StepSaid, step_answer}
use Rattle.extractor.specs.Calls.{SpendSaid, spends_to, spend_answer}
use Rattle.extractor.specs.declared.Extractor.{Extractor}
use Rattle.extractor.specs.declared.Extractor.TheVariants.{Fresh, Astray, InStep, Walking, Leaving}
use Rattle.demands.specs.Numbers.Samples.{small, broken, least, frame, lent, ten}

abbrev pub refuses : Settings → Extractor → List ℕ → List ℕ → ℕ
refuses s x store f = (step_answer s x store f).answer.refusal

pub record Refusals : Type 0 where
  -- each number alone: 1, 2, 10, 9 and 3; and none for a frame of the right length, whatever its header
  pub each : refuses broken (Leaving 0) (lent 12) (frame 0 0 0 ten)
      ∷ refuses small (Leaving 0) (lent 11) (frame 0 0 0 ten)
      ∷ refuses small (Leaving 16777216) (lent 12) (frame 0 0 0 ten)
      ∷ refuses small Fresh (lent 12) (frame 0 0 0 ten)
      ∷ refuses small (Astray 0) (lent 12) (frame 0 0 0 ten)
      ∷ refuses small (InStep 0 0) (lent 12) (frame 0 0 0 ten)
      ∷ refuses small (Leaving 0) (lent 12) (frame 0 0 0 (0x00 ∷ ten))
      ∷ refuses small (Walking 0 0 0) (lent 12) (lent 18)
      ∷ []
      ≡ 1 ∷ 2 ∷ 10 ∷ 9 ∷ 9 ∷ 9 ∷ 3 ∷ 0 ∷ []
  -- the order: all that is wrong at once, and then one thing after another put right
  pub order : refuses broken (Astray 16777216) [] []
      ∷ refuses small (Astray 16777216) [] []
      ∷ refuses small (Astray 16777216) (lent 12) []
      ∷ refuses small (Astray 0) (lent 12) []
      ∷ refuses small (Leaving 0) (lent 12) []
      ∷ []
      ≡ 1 ∷ 2 ∷ 10 ∷ 9 ∷ 3 ∷ []

-- an answer: 1 a packet, 2 an idle packet, 3 damaged, 4 spent; 1 in the frame, 2 in the store; start and size; the part; and what is left
abbrev pub says : ℕ → ℕ → ℕ → ℕ → List ℕ → Extractor → List ℕ → StepSaid
says outcome place start size part next store =
    record { answer = record { refusal = 0; outcome = outcome; place = place; start = start; size = size; part = part; damage = 0 }; next = next; store = store }

-- a step that finds damage
abbrev pub torn : ℕ → Extractor → List ℕ → StepSaid
torn damage next store =
    record { answer = record { refusal = 0; outcome = 3; place = 0; start = 0; size = 0; part = []; damage = damage }; next = next; store = store }

-- the zone of the second sample frame: the end of a packet of five octets, and an idle packet of seven
abbrev pub second : List ℕ
second = 0x11 ∷ 0x22 ∷ 0x33 ∷ 0xE1 ∷ 0x07 ∷ 0x55 ∷ 0x55 ∷ 0x55 ∷ 0x55 ∷ 0x55 ∷ []

-- a step of it, over a store that begins so
abbrev pub steps : Extractor → List ℕ → StepSaid
steps x store = step_answer small x (store ++ lent 12) (frame 1 0 3 second)

-- a step at the front of a zone that begins so
abbrev pub finds : List ℕ → ℕ
finds zone = (step_answer small (Walking 0 0 0) (lent 12) (frame 0 0 0 (zone ++ (0x33 ∷ 0x33 ∷ 0x33 ∷ [])))).answer.outcome

pub record Events : Type 0 where
  -- a packet begun earlier is completed behind the held octets, and no other octet of the store changes
  pub completed : steps (Walking 1 2 0) (0xE9 ∷ 0x05 ∷ [])
      ≡ says 1 2 0 5 (0xE9 ∷ 0x05 ∷ 0x11 ∷ 0x22 ∷ 0x33 ∷ []) (Walking 1 0 3) (0xE9 ∷ 0x05 ∷ 0x11 ∷ 0x22 ∷ 0x33 ∷ lent 9)
  -- the idle packet lies in the frame, after eight octets of headers and three of the zone
  pub in_frame : steps (Walking 1 0 3) [] ≡ says 2 1 11 7 (0xE1 ∷ 0x07 ∷ 0x55 ∷ 0x55 ∷ 0x55 ∷ 0x55 ∷ 0x55 ∷ []) (Walking 1 0 10) (lent 12)
  pub spent : steps (Walking 1 0 10) [] ≡ says 4 0 0 0 [] (InStep 1 0) (lent 12)
  -- 33 is version 001: damaged, then spent and out of step; so is a packet of 13 octets, but one of 12 is not
  pub damaged : steps (Walking 1 0 2) [] ≡ torn 1 (Leaving 1) (lent 12)
  pub lengths : map finds ((0xE5 ∷ 13 ∷ lent 5) ∷ (0xE5 ∷ 12 ∷ lent 5) ∷ []) ≡ 3 ∷ 4 ∷ []
  -- held octets whose header another frame damages: damaged too, and the store stays
  pub damaged_held : step_answer small (Walking 1 1 0) (0xE9 ∷ lent 11) (frame 1 0 3 (0x01 ∷ lent 9)) ≡ torn 3 (Leaving 1) (0xE9 ∷ lent 11)
  pub left : steps (Leaving 1) [] ≡ says 4 0 0 0 [] (Astray 1) (lent 12)
  -- unfinished octets go behind those held
  pub appended : step_answer least (Walking 1 1 0) (0x00 ∷ lent 7) (frame 1 0x07 0xFF (0x05 ∷ []))
      ≡ says 4 0 0 0 [] (InStep 1 2) (0x00 ∷ 0x05 ∷ lent 6)
  pub begun : step_answer small (Walking 1 0 7) (lent 12) (frame 1 0 0 (0 ∷ 0 ∷ 0 ∷ 0 ∷ 0 ∷ 0 ∷ 0 ∷ 0x07 ∷ 0xFF ∷ 0xC0 ∷ []))
      ≡ says 4 0 0 0 [] (InStep 1 3) (0x07 ∷ 0xFF ∷ 0xC0 ∷ lent 9)
  -- APID 2,047 and protocol 0 are idle; 2,046 and 1023, and protocols 1 and 4, are not
  pub idle : map finds
      ((0x07 ∷ 0xFF ∷ 0 ∷ 0 ∷ 0 ∷ 0 ∷ 0 ∷ []) ∷ (0xE1 ∷ 7 ∷ 0 ∷ 0 ∷ 0 ∷ 0 ∷ 0 ∷ []) ∷ (0xE0 ∷ 0 ∷ 0 ∷ 0 ∷ 0 ∷ 0 ∷ 0 ∷ []) ∷ [])
      ≡ 2 ∷ 2 ∷ 2 ∷ []
  pub not_idle : map finds
      ((0x07 ∷ 0xFE ∷ 0 ∷ 0 ∷ 0 ∷ 0 ∷ 0 ∷ []) ∷ (0x03 ∷ 0xFF ∷ 0 ∷ 0 ∷ 0 ∷ 0 ∷ 0 ∷ []) ∷ (0xE5 ∷ 7 ∷ 0 ∷ 0 ∷ 0 ∷ 0 ∷ 0 ∷ []) ∷ (0xF1 ∷ 7 ∷ 0 ∷ 0 ∷ 0 ∷ 0 ∷ 0 ∷ []) ∷ [])
      ≡ 1 ∷ 1 ∷ 1 ∷ 1 ∷ []

-- the second sample frame spent, over a store that begins so
abbrev pub spends : Extractor → List ℕ → SpendSaid
spends x store = spend_answer small x (store ++ lent 12) (frame 1 0 3 second)

pub record Spending : Type 0 where
  -- each number alone, as for a step, and then their order: record and store stay
  pub refused : spend_answer broken (Leaving 0) (lent 12) (frame 0 0 0 ten)
      ∷ spend_answer small (Leaving 0) (lent 11) (frame 0 0 0 ten)
      ∷ spend_answer small (Leaving 16777216) (lent 12) (frame 0 0 0 ten)
      ∷ spend_answer small (InStep 0 0) (lent 12) (frame 0 0 0 ten)
      ∷ spend_answer small (Walking 0 0 0) (lent 12) (frame 0 0 0 (0x00 ∷ ten))
      ∷ []
      ≡ spends_to 1 (Leaving 0) (lent 12)
      ∷ spends_to 2 (Leaving 0) (lent 11)
      ∷ spends_to 10 (Leaving 16777216) (lent 12)
      ∷ spends_to 9 (InStep 0 0) (lent 12)
      ∷ spends_to 3 (Walking 0 0 0) (lent 12)
      ∷ []
  pub order : spend_answer broken (Astray 16777216) [] []
      ∷ spend_answer small (Astray 16777216) [] []
      ∷ spend_answer small (Astray 16777216) (lent 12) []
      ∷ spend_answer small (Astray 0) (lent 12) []
      ∷ spend_answer small (Leaving 0) (lent 12) []
      ∷ []
      ≡ spends_to 1 (Astray 16777216) []
      ∷ spends_to 2 (Astray 16777216) []
      ∷ spends_to 10 (Astray 16777216) (lent 12)
      ∷ spends_to 9 (Astray 0) (lent 12)
      ∷ spends_to 3 (Leaving 0) (lent 12)
      ∷ []
  -- a packet is completed behind the held octets, and the idle packet after it ends the zone
  pub completed : spends (Walking 1 2 0) (0xE9 ∷ 0x05 ∷ []) ≡ spends_to 0 (InStep 1 0) (0xE9 ∷ 0x05 ∷ 0x11 ∷ 0x22 ∷ 0x33 ∷ lent 9)
  pub walked : map (λ (at : ℕ). spends (Walking 1 0 at) []) (3 ∷ 10 ∷ []) ≡ spends_to 0 (InStep 1 0) (lent 12) ∷ spends_to 0 (InStep 1 0) (lent 12) ∷ []
  -- damage, in the zone or with the held octets, leaves it out of step with its last count, and the store as it was
  pub damaged : spends (Walking 1 0 2) [] ≡ spends_to 0 (Astray 1) (lent 12)
  pub damaged_held : spend_answer small (Walking 1 1 0) (0xE9 ∷ lent 11) (frame 1 0 3 (0x01 ∷ lent 9)) ≡ spends_to 0 (Astray 1) (0xE9 ∷ lent 11)
  pub left : spends (Leaving 1) [] ≡ spends_to 0 (Astray 1) (lent 12)
  -- what is unfinished at the zone's end is held
  pub appended : spend_answer least (Walking 1 1 0) (0x00 ∷ lent 7) (frame 1 0x07 0xFF (0x05 ∷ [])) ≡ spends_to 0 (InStep 1 2) (0x00 ∷ 0x05 ∷ lent 6)
  pub begun : spend_answer small (Walking 1 0 0) (lent 12) (frame 1 0 0 (0 ∷ 0 ∷ 0 ∷ 0 ∷ 0 ∷ 0 ∷ 0 ∷ 0x07 ∷ 0xFF ∷ 0xC0 ∷ []))
      ≡ spends_to 0 (InStep 1 3) (0x07 ∷ 0xFF ∷ 0xC0 ∷ lent 9)
