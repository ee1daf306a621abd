-- The editions of the header by examples: the seven bits below the replay flag, the count of 28 bits at each call, its wheel, and the counts of records.
use Rattle.std.specs.Prelude.{ℕ, ◌≡◌, List, [], ◌∷◌, ◌++◌, map, Bool, true, false, replicate, eqb}
use Rattle.octets.specs.Basics.{pick, first}
use Rattle.frames.specs.Link.{count_width, next_count, missing}
use Rattle.frames.specs.Frame.{heading, head, head_rows}
use Rattle.frames.specs.BitFrame.{bit_heading, bit_head, bit_head_rows}
use Rattle.frames.specs.declared.Edition.{Edition}
use Rattle.frames.specs.declared.Edition.TheVariants.{Former, CycleUnused, CycleUsed}
use Rattle.frames.specs.Shape.{Heading}
use Rattle.multiplexer.specs.Calls.{Call, to_put, to_flush, to_idle, answer}
use Rattle.extractor.specs.Records.{checked}
use Rattle.extractor.specs.Answers.{enter_answer}
use Rattle.extractor.specs.declared.Extractor.{Extractor}
use Rattle.extractor.specs.declared.Extractor.TheVariants.{Astray, InStep, Walking, Leaving}
use Rattle.judge.specs.Calls.{frame_call, close_call}
use Rattle.judge.specs.declared.Judge.{Judge}
use Rattle.judge.specs.declared.Judge.TheVariants.{Open, Sound, Faulty}
use Rattle.bitstream.specs.Bitstream.{written, reading}
use Rattle.bitstream.specs.declared.Reader.{Reader}
use Rattle.bitstream.specs.declared.Reader.TheVariants.{Fresh, Last}
use Rattle.demands.specs.Numbers.Samples.{small_by, two_by, from, lent, ten}
use Rattle.demands.specs.Numbers.Multiplexing.{mux, done}
use Rattle.demands.specs.Numbers.FrameFields.{says}
use Rattle.demands.specs.Numbers.Entering as entering

abbrev pub editions : List Edition
editions = Former ∷ CycleUnused ∷ CycleUsed ∷ []

-- the same at each edition
abbrev pub at_each : {A : Type 0} → (Edition → A) → List A
at_each f = map f editions

-- both headers with these three octets of the count, this signalling octet and pointer 3
abbrev pub headed : ℕ → ℕ → ℕ → ℕ → List ℕ
headed a b c signal = 0x50 ∷ 0x83 ∷ a ∷ b ∷ c ∷ signal ∷ 0x00 ∷ 0x03 ∷ []

-- what the header of a frame says, of a packet channel and of a bitstream channel
abbrev pub reads : Edition → List ℕ → Heading
reads e octets = heading (small_by e) (octets ++ lent 10)

abbrev pub reads_bits : Edition → List ℕ → Heading
reads_bits e octets = bit_heading (two_by e) (octets ++ lent 2)

-- which of all signalling octets are taken; the others are refused by 6
abbrev pub taken_of : (ℕ → ℕ) → List ℕ → List ℕ
taken_of refusal [] = []
taken_of refusal (o ∷ os) = pick (eqb (refusal o) 0) (o ∷ taken_of refusal os) (pick (eqb (refusal o) 6) (taken_of refusal os) (256 ∷ taken_of refusal os))

abbrev pub taken : Edition → List ℕ
taken e = taken_of (λ o. (reads e (headed 0 0 0 o)).refusal) (from 0 256)

abbrev pub bits_taken : Edition → List ℕ
bits_taken e = taken_of (λ o. (reads_bits e (headed 0 0 0 o)).refusal) (from 0 256)

-- ---- layouts

pub record Layouts : Type 0 where
  -- 24 bits with usage 0, 28 with usage 1
  pub widths : at_each (λ e. count_width (small_by e).link) ≡ 24 ∷ 24 ∷ 28 ∷ []
  pub bit_widths : at_each (λ e. count_width (two_by e).link) ≡ 24 ∷ 24 ∷ 28 ∷ []
  -- of all 256 signalling octets: with usage 0 the replay flag alone; with usage 1 also the usage flag, and any cycle
  pub signals : at_each taken ≡ (0x00 ∷ 0x80 ∷ []) ∷ (0x00 ∷ 0x80 ∷ []) ∷ (from 0x40 16 ++ from 0xC0 16) ∷ []
  pub bit_signals : at_each bits_taken ≡ at_each taken
  -- the count with each cycle, and the replay flag
  pub cycles : map (λ o. reads CycleUsed (headed 0xBC 0xDE 0xF1 o)) (0x40 ∷ 0x41 ∷ 0x42 ∷ 0x44 ∷ 0x48 ∷ 0x4A ∷ 0x4F ∷ 0xCA ∷ [])
      ≡ says 0x0BCDEF1 0 3 ∷ says 0x1BCDEF1 0 3 ∷ says 0x2BCDEF1 0 3 ∷ says 0x4BCDEF1 0 3 ∷ says 0x8BCDEF1 0 3 ∷ says 0xABCDEF1 0 3 ∷ says 0xFBCDEF1 0 3 ∷ says 0xABCDEF1 1 3 ∷ []
  pub bit_cycles : map (λ o. reads_bits CycleUsed (headed 0xBC 0xDE 0xF1 o)) (0x40 ∷ 0x4A ∷ 0x4F ∷ 0xCA ∷ [])
      ≡ says 0x0BCDEF1 0 3 ∷ says 0xABCDEF1 0 3 ∷ says 0xFBCDEF1 0 3 ∷ says 0xABCDEF1 1 3 ∷ []
  pub edges : map (reads CycleUsed) (headed 0 0 0 0x40 ∷ headed 0xFF 0xFF 0xFF 0x40 ∷ headed 0 0 0 0x41 ∷ headed 0xFF 0xFF 0xFF 0x4F ∷ [])
      ≡ says 0 0 3 ∷ says 16777215 0 3 ∷ says 16777216 0 3 ∷ says 268435455 0 3 ∷ []
  -- and as they are written; with usage 0 as in 701.0-B-2
  pub written : map (λ c. head (small_by CycleUsed) c 3) (0 ∷ 0xABCDEF1 ∷ 16777215 ∷ 16777216 ∷ 268435455 ∷ [])
      ≡ headed 0 0 0 0x40 ∷ headed 0xBC 0xDE 0xF1 0x4A ∷ headed 0xFF 0xFF 0xFF 0x40 ∷ headed 0 0 0 0x41 ∷ headed 0xFF 0xFF 0xFF 0x4F ∷ []
  pub bits_written : map (λ c. bit_head (two_by CycleUsed) c 3) (0 ∷ 0xABCDEF1 ∷ 16777215 ∷ 16777216 ∷ 268435455 ∷ [])
      ≡ headed 0 0 0 0x40 ∷ headed 0xBC 0xDE 0xF1 0x4A ∷ headed 0xFF 0xFF 0xFF 0x40 ∷ headed 0 0 0 0x41 ∷ headed 0xFF 0xFF 0xFF 0x4F ∷ []
  pub unused_written : head (small_by CycleUnused) 0xBCDEF1 3 ∷ bit_head (two_by CycleUnused) 0xBCDEF1 3 ∷ [] ≡ replicate 2 (headed 0xBC 0xDE 0xF1 0x00)
  -- a count beyond the wheel is not written
  pub greatest : at_each (λ e. map (λ c. first (head_rows (small_by e) c 3 (lent 8))) (16777215 ∷ 16777216 ∷ 268435455 ∷ 268435456 ∷ []))
      ≡ (0 ∷ 1 ∷ 1 ∷ 1 ∷ []) ∷ (0 ∷ 1 ∷ 1 ∷ 1 ∷ []) ∷ (0 ∷ 0 ∷ 0 ∷ 1 ∷ []) ∷ []
  pub bits_greatest : at_each (λ e. map (λ c. first (bit_head_rows (two_by e) c 3 (lent 8))) (16777215 ∷ 16777216 ∷ 268435455 ∷ 268435456 ∷ []))
      ≡ (0 ∷ 1 ∷ 1 ∷ 1 ∷ []) ∷ (0 ∷ 1 ∷ 1 ∷ 1 ∷ []) ∷ (0 ∷ 0 ∷ 0 ∷ 1 ∷ []) ∷ []
  -- the wheel of 28 bits
  pub missing_before : missing 28 0 1 ∷ missing 28 16777215 16777216 ∷ missing 28 268435455 0 ∷ missing 28 7 7 ∷ missing 28 16777215 0 ∷ missing 28 5 4 ∷ []
      ≡ 0 ∷ 0 ∷ 0 ∷ 268435455 ∷ 251658240 ∷ 268435454 ∷ []
  pub next : map (next_count 28) (0 ∷ 16777215 ∷ 268435454 ∷ 268435455 ∷ []) ≡ 1 ∷ 16777216 ∷ 268435455 ∷ 0 ∷ []

-- ---- refusals

-- a signalling octet that is refused at this edition, and one that is not
abbrev pub wrong_bits : Edition → ℕ
wrong_bits Former = 0x40
wrong_bits CycleUnused = 0x01
wrong_bits CycleUsed = 0x30

abbrev pub right_bits : Edition → ℕ
right_bits Former = 0x00
right_bits CycleUnused = 0x00
right_bits CycleUsed = 0x4F

-- headers in which less and less is wrong: version 11; another spacecraft; the signalling octet; pointer 15, which neither Z = 10 nor W = 2 has a use for
abbrev pub wrong_headers : Edition → List (List ℕ)
wrong_headers e =
    (0xD0 ∷ 0xC3 ∷ 0 ∷ 0 ∷ 0 ∷ wrong_bits e ∷ 0 ∷ 15 ∷ [])
    ∷ (0x50 ∷ 0xC3 ∷ 0 ∷ 0 ∷ 0 ∷ wrong_bits e ∷ 0 ∷ 15 ∷ [])
    ∷ (0x50 ∷ 0x83 ∷ 0 ∷ 0 ∷ 0 ∷ wrong_bits e ∷ 0 ∷ 15 ∷ [])
    ∷ (0x50 ∷ 0x83 ∷ 0 ∷ 0 ∷ 0 ∷ right_bits e ∷ 0 ∷ 15 ∷ [])
    ∷ (0x50 ∷ 0x83 ∷ 0 ∷ 0 ∷ 0 ∷ right_bits e ∷ 0 ∷ 3 ∷ [])
    ∷ []

-- each record of an extractor with this last count, and what all of them are refused for
abbrev pub with_last : ℕ → List Extractor
with_last c = Astray c ∷ InStep c 0 ∷ Walking c 0 0 ∷ Leaving c ∷ []

abbrev pub fits : List ℕ
fits = replicate 4 0

abbrev pub beyond : List ℕ
beyond = replicate 4 10

-- the same of the greatest count of 24 bits, the next, the greatest of 28 bits, and the next
abbrev pub with_counts : {A : Type 0} → (ℕ → A) → List A
with_counts refusal = map refusal (16777215 ∷ 16777216 ∷ 268435455 ∷ 268435456 ∷ [])

pub record Refusals : Type 0 where
  -- 4 and 5 before 6, and 6 before 7
  pub order : at_each (λ e. map (λ h. (reads e h).refusal) (wrong_headers e)) ≡ replicate 3 (4 ∷ 5 ∷ 6 ∷ 7 ∷ 0 ∷ [])
  pub bit_order : at_each (λ e. map (λ h. (reads_bits e h).refusal) (wrong_headers e)) ≡ replicate 3 (4 ∷ 5 ∷ 6 ∷ 7 ∷ 0 ∷ [])
  -- a frame of another edition's usage, or with a cycle that is not used: by entering, by the judge, and by reading bits
  pub entered : at_each (λ e. map (λ o. (enter_answer (small_by e) (InStep 6 0) (lent 12) (headed 0 0 7 o ++ lent 10)).answer.refusal) (0x00 ∷ 0x40 ∷ 0x01 ∷ 0x41 ∷ 0x61 ∷ 0x51 ∷ []))
      ≡ (0 ∷ 6 ∷ 6 ∷ 6 ∷ 6 ∷ 6 ∷ []) ∷ (0 ∷ 6 ∷ 6 ∷ 6 ∷ 6 ∷ 6 ∷ []) ∷ (6 ∷ 0 ∷ 6 ∷ 0 ∷ 6 ∷ 6 ∷ []) ∷ []
  pub kept : at_each (λ e. (enter_answer (small_by e) (InStep 6 0) (lent 12) (headed 0 0 7 (wrong_bits e) ++ lent 10)).next) ≡ replicate 3 (InStep 6 0)
  pub judged : at_each (λ e. (frame_call (small_by e) (lent 12) (Sound 1 6 0) (headed 0 0 7 (wrong_bits e) ++ lent 10)).next) ≡ replicate 3 (Faulty 2 1)
  pub bits_read : at_each (λ e. reading (two_by e) (Last 6 true) (headed 0 0 7 (wrong_bits e) ++ lent 2))
      ≡ replicate 3 (record { refusal = 6; count = 0; replay = 0; bits = 0; lost = false; reader = Last 6 true })
  -- the counts of records: 10 for one that is not on the wheel, in each phase
  pub multiplexer : at_each (λ e. map (λ (c : Call). with_counts (λ n. (answer (small_by e) (mux n 0 2047 0) c (lent 18)).refusal)) (to_put ten ∷ to_flush ∷ to_idle ∷ []))
      ≡ replicate 3 (0 ∷ 10 ∷ 10 ∷ 10 ∷ []) ∷ replicate 3 (0 ∷ 10 ∷ 10 ∷ 10 ∷ []) ∷ replicate 3 (0 ∷ 0 ∷ 0 ∷ 10 ∷ []) ∷ []
  pub extractor : at_each (λ e. with_counts (λ n. map (λ (x : Extractor). first (checked (small_by e) x (lent 12) [])) (with_last n)))
      ≡ (fits ∷ beyond ∷ beyond ∷ beyond ∷ []) ∷ (fits ∷ beyond ∷ beyond ∷ beyond ∷ []) ∷ (fits ∷ fits ∷ fits ∷ beyond ∷ []) ∷ []
  pub judge : at_each (λ e. with_counts (λ n. (close_call (small_by e) (lent 12) (Sound 1 n 0)).refusal))
      ≡ (0 ∷ 10 ∷ 10 ∷ 10 ∷ []) ∷ (0 ∷ 10 ∷ 10 ∷ 10 ∷ []) ∷ (0 ∷ 0 ∷ 0 ∷ 10 ∷ []) ∷ []
  pub writer : at_each (λ e. with_counts (λ n. (written (two_by e) (record { count = n }) [] 0 (lent 10)).said.refusal))
      ≡ (0 ∷ 10 ∷ 10 ∷ 10 ∷ []) ∷ (0 ∷ 10 ∷ 10 ∷ 10 ∷ []) ∷ (0 ∷ 0 ∷ 0 ∷ 10 ∷ []) ∷ []
  pub reader : at_each (λ e. with_counts (λ n. (reading (two_by e) (Last n false) (headed 0 0 0 (right_bits e) ++ lent 2)).refusal))
      ≡ (0 ∷ 10 ∷ 10 ∷ 10 ∷ []) ∷ (0 ∷ 10 ∷ 10 ∷ 10 ∷ []) ∷ (0 ∷ 0 ∷ 0 ∷ 10 ∷ []) ∷ []
  -- a run has 16,777,216 frames at most at each of them: the limit is not the wheel's
  pub most_frames : at_each (λ e. map (λ n. (frame_call (small_by e) (lent 12) (Faulty n 0) []).refusal) (16777215 ∷ 16777216 ∷ 16777217 ∷ [])) ≡ replicate 3 (0 ∷ 11 ∷ 10 ∷ [])

-- ---- outcomes

pub record Outcomes : Type 0 where
  -- frames written with counts beyond 24 bits, and round the wheel
  pub put : map (λ c. answer (small_by CycleUsed) (mux c 0 2047 0) (to_put ten) (lent 18)) (16777215 ∷ 0xABCDEF1 ∷ 268435455 ∷ [])
      ≡ done true true (mux 16777216 0 2047 0) (0x50 ∷ 0x83 ∷ 0xFF ∷ 0xFF ∷ 0xFF ∷ 0x40 ∷ 0 ∷ 0 ∷ ten)
      ∷ done true true (mux 0xABCDEF2 0 2047 0) (0x50 ∷ 0x83 ∷ 0xBC ∷ 0xDE ∷ 0xF1 ∷ 0x4A ∷ 0 ∷ 0 ∷ ten)
      ∷ done true true (mux 0 0 2047 0) (0x50 ∷ 0x83 ∷ 0xFF ∷ 0xFF ∷ 0xFF ∷ 0x4F ∷ 0 ∷ 0 ∷ ten)
      ∷ []
  pub flushed : answer (small_by CycleUsed) (mux 268435455 7 0 0) to_flush (lent 18)
      ≡ done true true (mux 0 0 2047 0) (0x50 ∷ 0x83 ∷ 0xFF ∷ 0xFF ∷ 0xFF ∷ 0x4F ∷ 0 ∷ 0 ∷ (lent 7 ++ (0xE1 ∷ 3 ∷ 0x55 ∷ [])))
  pub idle : answer (small_by CycleUsed) (mux 16777216 0 2047 0) to_idle (lent 18)
      ≡ done true false (mux 16777217 0 2047 0) (0x50 ∷ 0x83 ∷ 0 ∷ 0 ∷ 0 ∷ 0x41 ∷ 0x07 ∷ 0xFE ∷ replicate 10 0x55)
  pub unused : answer (small_by CycleUnused) (mux 16777215 0 2047 0) (to_put ten) (lent 18)
      ≡ done true true (mux 0 0 2047 0) (0x50 ∷ 0x83 ∷ 0xFF ∷ 0xFF ∷ 0xFF ∷ 0x00 ∷ 0 ∷ 0 ∷ ten)
  -- entered: nothing lost from 24 bits on and round the wheel; the same count twice; another cycle; and a replayed frame
  pub entered : map (λ last. enter_answer (small_by CycleUsed) (InStep last 0) (lent 12) (0x50 ∷ 0x83 ∷ 0 ∷ 0 ∷ 0 ∷ 0x41 ∷ 0 ∷ 0 ∷ lent 10)) (16777215 ∷ 16777216 ∷ 0 ∷ 268435455 ∷ [])
      ≡ entering.says 16777216 0 0 0 0 (Walking 16777216 0 0)
      ∷ entering.says 16777216 0 268435455 0 1 (Walking 16777216 0 0)
      ∷ entering.says 16777216 0 16777215 0 1 (Walking 16777216 0 0)
      ∷ entering.says 16777216 0 16777216 0 1 (Walking 16777216 0 0)
      ∷ []
  pub turned : enter_answer (small_by CycleUsed) (InStep 268435455 0) (lent 12) (0x50 ∷ 0x83 ∷ 0 ∷ 0 ∷ 0 ∷ 0xC0 ∷ 0 ∷ 0 ∷ lent 10) ≡ entering.says 0 1 0 0 0 (Walking 0 0 0)
  -- judged: a first frame may have any count, and the next follows it at 28 bits
  pub judged : map (λ (j : Judge). (frame_call (small_by CycleUsed) (lent 12) j (0x50 ∷ 0x83 ∷ 0 ∷ 0 ∷ 0 ∷ 0x41 ∷ 0x07 ∷ 0xFE ∷ lent 10)).next) (Open ∷ Sound 3 16777215 0 ∷ Sound 3 0 0 ∷ [])
      ≡ Sound 1 16777216 0 ∷ Sound 4 16777216 0 ∷ Faulty 4 3 ∷ []
  -- bits: written with the cycle, and read with the loss flag by the wheel of 28 bits
  pub bits_written : map (λ c. written (two_by CycleUsed) (record { count = c }) (0xAB ∷ 0xCD ∷ []) 16 (lent 10)) (16777216 ∷ 268435455 ∷ [])
      ≡ record { said = record { refusal = 0; writer = record { count = 16777217 } }; frame = 0x50 ∷ 0x83 ∷ 0 ∷ 0 ∷ 0 ∷ 0x41 ∷ 0x3F ∷ 0xFF ∷ 0xAB ∷ 0xCD ∷ [] }
      ∷ record { said = record { refusal = 0; writer = record { count = 0 } }; frame = 0x50 ∷ 0x83 ∷ 0xFF ∷ 0xFF ∷ 0xFF ∷ 0x4F ∷ 0x3F ∷ 0xFF ∷ 0xAB ∷ 0xCD ∷ [] }
      ∷ []
  pub bits_read : map (λ (x : Reader). reading (two_by CycleUsed) x (0x50 ∷ 0x83 ∷ 0 ∷ 0 ∷ 0 ∷ 0x41 ∷ 0x3F ∷ 0xFF ∷ 0xAB ∷ 0xCD ∷ [])) (Fresh ∷ Last 16777215 false ∷ Last 0 false ∷ Last 16777216 false ∷ [])
      ≡ map (λ (lost : Bool). record { refusal = 0; count = 16777216; replay = 0; bits = 16; lost = lost; reader = Last 16777216 false }) (false ∷ false ∷ true ∷ true ∷ [])
