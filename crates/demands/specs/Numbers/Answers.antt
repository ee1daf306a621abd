-- What each case of an answer means in document 01's numbers.
use Rattle.std.specs.Prelude.{ℕ, ◌≡◌, List, [], ◌∷◌, map, true, false, Option, None, Some, Result, Ok, Err}
use Rattle.octets.specs.declared.refusals.Refusal.{Refusal}
use Rattle.packets.specs.Packet as packet
use Rattle.packets.specs.Damage.{damage_number, damage_or_0}
use Rattle.packets.specs.Header.{answer, seen}
use Rattle.wrapping.specs.Wrap.{wraps}
use Rattle.packets.specs.Unwrap.{unwraps}
use Rattle.packets.specs.declared.Kind.TheVariants.{Space, Encapsulation}
use Rattle.packets.specs.declared.Header.{Header}
use Rattle.packets.specs.declared.Seen.{Seen}
use Rattle.packets.specs.declared.damage.Damage.{Damage}
use Rattle.space.specs.Space.{space_reads, space_writes}
use Rattle.multiplexer.specs.Calls.{answers, answers_alone}
use Rattle.extractor.specs.Records.{shown}
use Rattle.extractor.specs.Answers.{EnterNumbers, enter_says, StepNumbers, found_numbers, as_found, found_or_refused, answered, step_says}
use Rattle.extractor.specs.Calls.{spends_to, spend_says}
use Rattle.extractor.specs.declared.Extractor.{Extractor}
use Rattle.extractor.specs.declared.Extractor.TheVariants.{Fresh, Walking, Leaving}
use Rattle.extractor.specs.declared.Reason.{Reason}
use Rattle.extractor.specs.declared.Entering.{Entering}
use Rattle.extractor.specs.declared.Found.{Found}
use Rattle.extractor.specs.declared.Move.{Move}
use Rattle.judge.specs.Calls.{close_says, judge_says}
use Rattle.judge.specs.declared.Judge.{Judge}
use Rattle.judge.specs.declared.Judge.TheVariants.{Open, Faulty}
use Rattle.judge.specs.declared.Verdict.{Verdict}
use Rattle.bitstream.specs.Bitstream.{writes, wrote}
use Rattle.bitstream.specs.Bitstream as bits
use Rattle.bitstream.specs.declared.Writer.{Writer}
use Rattle.bitstream.specs.declared.Reader.TheVariants.{Last}
use Rattle.bitstream.specs.declared.Reader.TheVariants as reader
use Rattle.exports.specs.Left.{left}
use Rattle.demands.specs.Numbers.Multiplexing.{mux, done}
use Rattle.demands.specs.Numbers.PacketFields.{whole, more, damaged}
use Rattle.demands.specs.Numbers.SpaceFields.{fields, reads}
use Rattle.demands.specs.Numbers.Wrapping.{says, unit, refused}

-- what a step answers that finds no damage, what one answers that does, and what entering answers
abbrev pub found : ℕ → ℕ → ℕ → ℕ → ℕ → List ℕ → StepNumbers
found refusal outcome place start size part =
    record { refusal = refusal; outcome = outcome; place = place; start = start; size = size; part = part; damage = 0 }

abbrev pub torn : ℕ → StepNumbers
torn damage = record { refusal = 0; outcome = 3; place = 0; start = 0; size = 0; part = []; damage = damage }

abbrev pub entered : ℕ → ℕ → ℕ → ℕ → ℕ → ℕ → ℕ → ℕ → EnterNumbers
entered refusal outcome count replay lost dropped reason damage =
    record { refusal = refusal; outcome = outcome; count = count; replay = replay; lost = lost; dropped = dropped; reason = reason; damage = damage }

-- a frame that was entered, its octets held dropped for this reason; and a step that found this; with this record after it
abbrev pub enters : Option Reason → Extractor → Result Entering Refusal
enters reason next = Ok (record { entry = record { count = 1; replay = 1; lost = 2; dropped = 3; reason = reason }; next = next })

abbrev pub steps : Found → Extractor → Result Move Refusal
steps found next = Ok (record { found = found; next = next })

-- a frame and a store of three octets
abbrev pub of_three : Found → StepNumbers
of_three a = found_numbers (1 ∷ 2 ∷ 3 ∷ []) (4 ∷ 5 ∷ 6 ∷ []) (as_found a)

pub record Cases : Type 0 where
  -- 1 frames are missing, 2 the pointer differs, 3 the header is damaged, and how
  pub entering : map (λ (r : Result Entering Refusal). (enter_says Fresh r).answer)
      (Err Refusal.Moment
      ∷ enters None Fresh
      ∷ enters (Some Reason.FramesMissing) Fresh
      ∷ enters (Some Reason.PointerDiffers) Fresh
      ∷ enters (Some (Reason.HeaderDamaged Damage.OverLimit)) Fresh
      ∷ [])
      ≡ entered 9 0 0 0 0 0 0 0 ∷ entered 0 1 1 1 2 3 0 0 ∷ entered 0 1 1 1 2 3 1 0 ∷ entered 0 1 1 1 2 3 2 0 ∷ entered 0 1 1 1 2 3 3 4 ∷ []
  -- 1 a packet, 2 an idle packet, 3 damaged, 4 spent; 1 in the frame, 2 in the store
  pub refused_step : found_numbers (1 ∷ 2 ∷ 3 ∷ []) (4 ∷ 5 ∷ 6 ∷ []) (answered (Err Refusal.Moment)) ≡ found 9 0 0 0 0 []
  pub in_frame : map of_three (Found.InFrame 1 2 false ∷ Found.InFrame 1 2 true ∷ Found.InFrame 1 3 false ∷ [])
      ≡ found 0 1 1 1 2 (2 ∷ 3 ∷ []) ∷ found 0 2 1 1 2 (2 ∷ 3 ∷ []) ∷ found 0 1 1 1 3 [] ∷ []
  pub in_store : map of_three (Found.InStore 2 false ∷ Found.InStore 2 true ∷ Found.InStore 4 false ∷ [])
      ≡ found 0 1 2 0 2 (4 ∷ 5 ∷ []) ∷ found 0 2 2 0 2 (4 ∷ 5 ∷ []) ∷ found 0 1 2 0 4 [] ∷ []
  pub no_part : map of_three (Found.Damaged Damage.Version ∷ Found.Damaged Damage.OverLimit ∷ Found.Spent ∷ []) ≡ torn 1 ∷ torn 4 ∷ found 0 4 0 0 0 [] ∷ []
  -- the part of that frame and that store that is shown of a step's answer, and of what the step found
  pub shows : map (λ (r : Result Move Refusal). shown (1 ∷ 2 ∷ 3 ∷ []) (4 ∷ 5 ∷ 6 ∷ []) (answered r))
      (steps (Found.InFrame 1 2 false) Fresh
      ∷ steps (Found.InStore 2 true) Fresh
      ∷ Err Refusal.Moment
      ∷ steps (Found.Damaged Damage.Version) Fresh
      ∷ steps Found.Spent Fresh
      ∷ [])
      ≡ (2 ∷ 3 ∷ []) ∷ (4 ∷ 5 ∷ []) ∷ [] ∷ [] ∷ [] ∷ []
  pub shows_found : map (λ (r : Result Found Refusal). shown (1 ∷ 2 ∷ 3 ∷ []) (4 ∷ 5 ∷ 6 ∷ []) (found_or_refused r))
      (Ok (Found.InFrame 1 2 false) ∷ Ok (Found.InStore 2 true) ∷ Err Refusal.Moment ∷ Ok (Found.Damaged Damage.Version) ∷ Ok Found.Spent ∷ [])
      ≡ (2 ∷ 3 ∷ []) ∷ (4 ∷ 5 ∷ []) ∷ [] ∷ [] ∷ [] ∷ []
  pub closing : map close_says (Err Refusal.Record ∷ Ok Verdict.Pass ∷ Ok (Verdict.Fault 5) ∷ [])
      ≡ record { accepted = false; refusal = 10; passes = false; at = 0 }
      ∷ record { accepted = true; refusal = 0; passes = true; at = 0 }
      ∷ record { accepted = true; refusal = 0; passes = false; at = 5 }
      ∷ []
  -- version 0 is a space packet, 7 an encapsulation packet; 1 more octets are needed, 2 damaged, and how
  pub headers : map (λ h. answer (Ok h))
      (Header.Whole Space 5 false 6 8 ∷ Header.Whole Encapsulation 0 true 2 7 ∷ Header.More ∷ Header.Damaged Damage.Version ∷ Header.Damaged Damage.OverLimit ∷ [])
      ≡ whole 0 5 false 6 8 ∷ whole 7 0 true 2 7 ∷ more ∷ damaged 1 ∷ damaged 4 ∷ []
  pub refused_header : answer (Err Refusal.Setting) ≡ record { refusal = 1; outcome = 0; version = 0; key = 0; idle = false; size = 0; total = 0; damage = 0 }
  pub put : answers (mux 5 6 7 8) (Ok (record { full = true; taken = false; mux = mux 1 2 3 4 })) (7 ∷ []) ≡ done true false (mux 1 2 3 4) (7 ∷ [])
  pub refused_put : answers (mux 1 2 3 4) (Err (refused Refusal.Packet (Some Damage.BelowHeader))) (7 ∷ [])
      ≡ record { accepted = false; refusal = 8; damage = 3; full = false; taken = false; mux = mux 1 2 3 4; frame = 7 ∷ [] }
  pub flushed : answers_alone (mux 5 6 7 8) (Ok (record { full = true; taken = false; mux = mux 1 2 3 4 })) (7 ∷ []) ≡ done true false (mux 1 2 3 4) (7 ∷ [])
  pub refused_flush : answers_alone (mux 1 2 3 4) (Err Refusal.Moment) (7 ∷ [])
      ≡ record { accepted = false; refusal = 9; damage = 0; full = false; taken = false; mux = mux 1 2 3 4; frame = 7 ∷ [] }
  pub wrapped : map (λ w. wraps w (7 ∷ [])) (Err Refusal.Packet ∷ Ok 5 ∷ [])
      ≡ record { accepted = false; refusal = 8; damage = 0; total = 0; output = 7 ∷ [] } ∷ record { accepted = true; refusal = 0; damage = 0; total = 5; output = 7 ∷ [] } ∷ []
  pub unwrapped : map unwraps (Err (refused Refusal.Packet (Some Damage.NotIdle)) ∷ unit 6 1 4 9 ∷ [])
      ≡ record { accepted = false; refusal = 8; damage = 2; protocol = 0; extension = 0; start = 0; size = 0 } ∷ says 6 1 4 9 ∷ []
  pub space_read : map space_reads (Err Refusal.Packet ∷ Ok (fields 1 0 2 3 4 5) ∷ [])
      ≡ record { accepted = false; refusal = 8; header = fields 0 0 0 0 0 0 } ∷ reads (fields 1 0 2 3 4 5) ∷ []
  -- whatever the damage is
  pub damage_found : (d : Damage) → of_three (Found.Damaged d) ≡ torn (damage_number d)
  pub damage_read : (d : Damage) → answer (Ok (Header.Damaged d)) ≡ damaged (damage_number d)
  pub damage_seen : (d : Damage) → seen (Seen.Damaged d) ≡ packet.damaged (damage_number d)
  pub damage_put : (r : Refusal) (d : Option Damage) → (answers (mux 1 2 3 4) (Err (refused r d)) []).damage ≡ damage_or_0 d
  pub damage_wrapped : (r : Refusal) → (wraps (Err r) []).damage ≡ 0
  pub damage_unwrapped : (r : Refusal) (d : Option Damage) → (unwraps (Err (refused r d))).damage ≡ damage_or_0 d
  pub damage_entered : (d : Damage) → (enter_says Fresh (enters (Some (Reason.HeaderDamaged d)) Fresh)).answer.damage ≡ damage_number d
  pub lengths : map seen (Seen.More ∷ Seen.Damaged Damage.BelowHeader ∷ Seen.Whole 5 ∷ []) ≡ packet.more ∷ packet.damaged 3 ∷ packet.whole 5 ∷ []

-- An answer, the record and the octets that a call leaves, put together: each stands as it is. The record is the one that is answered, or, where
-- the call is refused, the one before it.
pub record Together : Type 0 where
  pub entering : map (enter_says (Walking 1 2 3)) (Err Refusal.Moment ∷ enters None (Leaving 4) ∷ [])
      ≡ record { answer = entered 9 0 0 0 0 0 0 0; next = Walking 1 2 3 } ∷ record { answer = entered 0 1 1 1 2 3 0 0; next = Leaving 4 } ∷ []
  pub stepping : map (λ (r : Result Move Refusal). step_says (Walking 1 2 3) r (1 ∷ 2 ∷ 3 ∷ []) (4 ∷ 5 ∷ 6 ∷ [])) (Err Refusal.Moment ∷ steps Found.Spent (Leaving 4) ∷ [])
      ≡ record { answer = found 9 0 0 0 0 []; next = Walking 1 2 3; store = 4 ∷ 5 ∷ 6 ∷ [] }
      ∷ record { answer = found 0 4 0 0 0 []; next = Leaving 4; store = 4 ∷ 5 ∷ 6 ∷ [] }
      ∷ []
  pub spending : map (λ (r : Result Extractor Refusal). spend_says (Walking 1 2 3) r (7 ∷ [])) (Err Refusal.Moment ∷ Ok (Leaving 4) ∷ [])
      ≡ record { refusal = 9; next = Walking 1 2 3; store = 7 ∷ [] } ∷ record { refusal = 0; next = Leaving 4; store = 7 ∷ [] } ∷ []
  pub spent : spends_to 9 (Walking 1 2 3) (7 ∷ []) ≡ record { refusal = 9; next = Walking 1 2 3; store = 7 ∷ [] }
  pub judging : map (λ (r : Result Judge Refusal). judge_says (Faulty 2 1) r (7 ∷ [])) (Err Refusal.Frames ∷ Ok Open ∷ [])
      ≡ record { refusal = 11; next = Faulty 2 1; store = 7 ∷ [] } ∷ record { refusal = 0; next = Open; store = 7 ∷ [] } ∷ []
  pub writing_bits : map (λ (r : Result Writer Refusal). wrote (writes (record { count = 5 }) r) (7 ∷ [])) (Err Refusal.Record ∷ Ok (record { count = 6 }) ∷ [])
      ≡ record { said = record { refusal = 10; writer = record { count = 5 } }; frame = 7 ∷ [] }
      ∷ record { said = record { refusal = 0; writer = record { count = 6 } }; frame = 7 ∷ [] }
      ∷ []
  pub reading_bits : map (bits.reads (Last 5 true)) (Err Refusal.Record ∷ Ok (record { count = 6; replay = 1; bits = 2; lost = true; reader = reader.Fresh }) ∷ [])
      ≡ record { refusal = 10; count = 0; replay = 0; bits = 0; lost = false; reader = Last 5 true }
      ∷ record { refusal = 0; count = 6; replay = 1; bits = 2; lost = true; reader = reader.Fresh }
      ∷ []
  pub writing_space : space_writes (Err Refusal.Setting) (7 ∷ []) ≡ record { refusal = 1; output = 7 ∷ [] }
  pub in_c : left 1 (2 ∷ []) (3 ∷ []) (4 ∷ []) ≡ record { refusal = 1; numbers = 2 ∷ []; octets = 3 ∷ []; answer = 4 ∷ [] }
