-- What entering is refused for, and its six numbers: count, replay, lost, dropped, reason and damage.
use Rattle.std.specs.Prelude.{ℕ, ◌≡◌, List, [], ◌∷◌, ◌++◌, map, replicate}
use Rattle.octets.specs.Basics.{first}
use Rattle.frames.specs.declared.Settings.{Settings}
use Rattle.extractor.specs.Records.{checked}
use Rattle.extractor.specs.Answers.{EnterSaid, enter_answer}
use Rattle.extractor.specs.declared.Extractor.{Extractor}
use Rattle.extractor.specs.declared.Extractor.TheVariants.{Fresh, Astray, InStep, Walking, Leaving}
use Rattle.demands.specs.Numbers.Samples.{small, broken, least, frame, wrong_headers, lent, ten}

abbrev pub refuses : Settings → Extractor → List ℕ → List ℕ → ℕ
refuses s x store f = (enter_answer s x store f).answer.refusal

-- a frame with these eight octets before its zone
abbrev pub headed : List ℕ → List ℕ
headed octets = octets ++ replicate 10 0x00

pub record Refusals : Type 0 where
  -- each number alone: 1, 2, 10, 9, 3, 4, 5, 6, 7 and none
  pub each : refuses broken Fresh (lent 12) (frame 0 0 0 ten)
      ∷ refuses small Fresh (lent 11) (frame 0 0 0 ten)
      ∷ refuses small (Astray 16777216) (lent 12) (frame 0 0 0 ten)
      ∷ refuses small (Walking 0 0 10) (lent 12) (frame 0 0 0 ten)
      ∷ refuses small (Leaving 0) (lent 12) (frame 0 0 0 ten)
      ∷ refuses small Fresh (lent 12) (frame 0 0 0 (0x00 ∷ ten))
      ∷ refuses small Fresh (lent 12) (headed (0x90 ∷ 0x83 ∷ 0 ∷ 0 ∷ 0 ∷ 0 ∷ 0 ∷ 0 ∷ []))
      ∷ refuses small Fresh (lent 12) (headed (0x50 ∷ 0xC3 ∷ 0 ∷ 0 ∷ 0 ∷ 0 ∷ 0 ∷ 0 ∷ []))
      ∷ refuses small Fresh (lent 12) (headed (0x50 ∷ 0x82 ∷ 0 ∷ 0 ∷ 0 ∷ 0 ∷ 0 ∷ 0 ∷ []))
      ∷ refuses small Fresh (lent 12) (headed (0x50 ∷ 0x83 ∷ 0 ∷ 0 ∷ 0 ∷ 1 ∷ 0 ∷ 0 ∷ []))
      ∷ refuses small Fresh (lent 12) (frame 0 0x08 0 ten)
      ∷ refuses small Fresh (lent 12) (frame 0 0 10 ten)
      ∷ refuses small Fresh (lent 12) (frame 0 0 9 ten)
      ∷ []
      ≡ 1 ∷ 2 ∷ 10 ∷ 9 ∷ 9 ∷ 3 ∷ 4 ∷ 5 ∷ 5 ∷ 6 ∷ 6 ∷ 7 ∷ 0 ∷ []
  -- the order: all that is wrong at once, and then one thing after another put right
  pub order : refuses broken (Walking 16777216 0 0) [] (lent 19)
      ∷ refuses small (Walking 16777216 0 0) [] (lent 19)
      ∷ refuses small (Walking 16777216 0 0) (lent 12) (lent 19)
      ∷ refuses small (Walking 0 0 0) (lent 12) (lent 19)
      ∷ refuses small Fresh (lent 12) (lent 19)
      ∷ map (λ octets. refuses small Fresh (lent 12) (headed octets)) wrong_headers
      ≡ 1 ∷ 2 ∷ 10 ∷ 9 ∷ 3 ∷ 4 ∷ 5 ∷ 6 ∷ 7 ∷ []

-- what the record and the held octets alone are refused for, with a store that begins so and is long enough
abbrev pub held : List ℕ → Extractor → ℕ
held octets x = first (checked small x (octets ++ lent 12) [])

pub record Records : Type 0 where
  -- a count of 24 bits, a walk to the zone's end, and octets held before the zone only
  pub reached : map (held []) (Fresh ∷ Astray 16777215 ∷ InStep 16777215 0 ∷ Walking 16777215 0 10 ∷ Leaving 16777215 ∷ []) ≡ 0 ∷ 0 ∷ 0 ∷ 0 ∷ 0 ∷ []
  pub not_reached : map (held []) (Astray 16777216 ∷ InStep 16777216 0 ∷ Walking 16777216 0 10 ∷ Leaving 16777216 ∷ Walking 0 0 11 ∷ [])
      ≡ 10 ∷ 10 ∷ 10 ∷ 10 ∷ 10 ∷ []
  -- held octets begin a packet that is not yet damaged and is longer than they are
  pub longer : map (λ x. held (0xE9 ∷ 0x03 ∷ 0x00 ∷ []) x) (InStep 0 1 ∷ InStep 0 2 ∷ InStep 0 3 ∷ Walking 0 2 0 ∷ Walking 0 3 0 ∷ Walking 0 2 1 ∷ [])
      ≡ 0 ∷ 0 ∷ 10 ∷ 0 ∷ 10 ∷ 10 ∷ []
  pub damaged : held (0x20 ∷ []) (InStep 0 1) ∷ held (0xE9 ∷ 0x0D ∷ []) (InStep 0 2) ∷ held (0xE9 ∷ 0x0C ∷ []) (InStep 0 2) ∷ [] ≡ 10 ∷ 10 ∷ 0 ∷ []

-- a frame that is entered: its count, replay flag, lost, dropped, reason, damage, and the record after it
abbrev pub enters_as : ℕ → ℕ → ℕ → ℕ → ℕ → ℕ → Extractor → EnterSaid
enters_as count replay lost dropped reason damage next =
    record { answer = record { refusal = 0; outcome = 1; count = count; replay = replay; lost = lost; dropped = dropped; reason = reason; damage = damage }; next = next }

-- the same without damage, and of octets dropped for their header's damage before the frame with count 1
abbrev pub says : ℕ → ℕ → ℕ → ℕ → ℕ → Extractor → EnterSaid
says count replay lost dropped reason next = enters_as count replay lost dropped reason 0 next

abbrev pub hurt : ℕ → ℕ → Extractor → EnterSaid
hurt dropped damage next = enters_as 1 0 0 dropped 3 damage next

-- entering a frame whose zone begins so, over a store that begins so
abbrev pub enters : Extractor → List ℕ → ℕ → ℕ → ℕ → List ℕ → EnterSaid
enters x store count high low zone = enter_answer small x (store ++ lent 12) (frame count high low (zone ++ replicate 8 0x33))

pub record Reasons : Type 0 where
  -- out of step nothing is compared: pointers to 9 start the walk, 2,046 puts it in step, 2,047 leaves it out
  pub fresh : map (λ low. enters Fresh [] 7 0 low (0 ∷ 0 ∷ [])) (0 ∷ 9 ∷ []) ≡ says 7 0 0 0 0 (Walking 7 0 0) ∷ says 7 0 0 0 0 (Walking 7 0 9) ∷ []
  pub astray : map (λ low. enters (Astray 6) [] 7 0x07 low (0 ∷ 0 ∷ [])) (0xFE ∷ 0xFF ∷ [])
      ≡ says 7 0 0 0 0 (Walking 7 0 10) ∷ says 7 0 0 0 0 (Leaving 7) ∷ []
  -- lost, whatever is held and whatever else is wrong: reason 1; the wheel both ways
  pub lost : map (λ last. enters (InStep last 2) (0xE9 ∷ 0x05 ∷ []) 1 0 3 (0 ∷ 0 ∷ [])) (0 ∷ 16777215 ∷ 1 ∷ 2 ∷ [])
      ≡ says 1 0 0 0 0 (Walking 1 2 0)
      ∷ says 1 0 1 2 1 (Walking 1 0 3)
      ∷ says 1 0 16777215 2 1 (Walking 1 0 3)
      ∷ says 1 0 16777214 2 1 (Walking 1 0 3)
      ∷ []
  pub lost_astray : enters (Astray 0) [] 2 0 0 (0 ∷ 0 ∷ []) ≡ says 2 0 1 0 1 (Walking 2 0 0)
  pub lost_first : enters (InStep 0 1) (0xE9 ∷ []) 2 0 5 (0x01 ∷ 0 ∷ []) ≡ says 2 0 1 1 1 (Walking 2 0 5)
  -- with nothing held 0 and 2,046 agree, and else the reason is 2
  pub none_held : enters (InStep 0 0) [] 1 0 0 (0 ∷ 0 ∷ [])
      ∷ enters (InStep 0 0) [] 1 0x07 0xFE (0 ∷ 0 ∷ [])
      ∷ enters (InStep 0 0) [] 1 0 1 (0 ∷ 0 ∷ [])
      ∷ enters (InStep 0 0) [] 1 0x07 0xFF (0 ∷ 0 ∷ [])
      ∷ []
      ≡ says 1 0 0 0 0 (Walking 1 0 0) ∷ says 1 0 0 0 0 (Walking 1 0 10) ∷ says 1 0 0 0 2 (Walking 1 0 1) ∷ says 1 0 0 0 2 (Leaving 1) ∷ []
  -- with two octets of five held 3 agrees; of eleven 9; of twelve, which fill the zone, 2,047
  pub held_agrees : enters (InStep 0 2) (0xE9 ∷ 0x0B ∷ []) 1 0 9 (0 ∷ 0 ∷ [])
      ∷ enters (InStep 0 2) (0xE9 ∷ 0x0C ∷ []) 1 0x07 0xFF (0 ∷ 0 ∷ [])
      ∷ enters (InStep 0 1) (0xE9 ∷ []) 1 0x07 0xFF (0x0C ∷ 0 ∷ [])
      ∷ []
      ≡ says 1 0 0 0 0 (Walking 1 2 0) ∷ says 1 0 0 0 0 (Walking 1 2 0) ∷ says 1 0 0 0 0 (Walking 1 1 0) ∷ []
  pub held_differs : map (λ low. enters (InStep 0 2) (0xE9 ∷ 0x05 ∷ []) 1 0 low (0 ∷ 0 ∷ [])) (0 ∷ 2 ∷ 4 ∷ [])
      ≡ says 1 0 0 2 2 (Walking 1 0 0) ∷ says 1 0 0 2 2 (Walking 1 0 2) ∷ says 1 0 0 2 2 (Walking 1 0 4) ∷ []
  pub held_reserved : map (λ low. enters (InStep 0 2) (0xE9 ∷ 0x05 ∷ []) 1 0x07 low (0 ∷ 0 ∷ [])) (0xFE ∷ 0xFF ∷ [])
      ≡ says 1 0 0 2 2 (Walking 1 0 10) ∷ says 1 0 0 2 2 (Leaving 1) ∷ []
  -- a header that stays unfinished: 2,047 agrees, and no other
  pub unfinished : map (λ low. enter_answer least (InStep 0 1) (0x00 ∷ lent 6) (frame 1 0x07 low (0x05 ∷ []))) (0xFF ∷ 0xFE ∷ [])
      ≡ says 1 0 0 0 0 (Walking 1 1 0) ∷ says 1 0 0 1 2 (Walking 1 0 1) ∷ []
  -- a header that is damaged, by a length below it, 3, or above M, 4: reason 3, whatever the pointer
  pub damaged : map (λ low. enters (InStep 0 1) (0xE9 ∷ []) 1 0 low (0x01 ∷ 0 ∷ [])) (0 ∷ 1 ∷ []) ≡ hurt 1 3 (Walking 1 0 0) ∷ hurt 1 3 (Walking 1 0 1) ∷ []
  pub too_long : enters (InStep 0 1) (0xE9 ∷ []) 1 0x07 0xFF (0x0D ∷ 0 ∷ []) ≡ hurt 1 4 (Leaving 1)
  pub damaged_reserved : map (λ low. enters (InStep 0 1) (0xE9 ∷ []) 1 0x07 low (0x01 ∷ 0 ∷ [])) (0xFE ∷ 0xFF ∷ [])
      ≡ hurt 1 3 (Walking 1 0 10) ∷ hurt 1 3 (Leaving 1) ∷ []
  -- the replay flag is reported
  pub replayed : enter_answer small Fresh (lent 12) (headed (0x50 ∷ 0x83 ∷ 0 ∷ 0 ∷ 7 ∷ 0x80 ∷ 0 ∷ 0 ∷ [])) ≡ says 7 1 0 0 0 (Walking 7 0 0)
