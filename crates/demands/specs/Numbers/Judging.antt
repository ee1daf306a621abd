-- What the judge's calls are refused for, its limit, what is a fault, what tapes leave, and what closing answers.
use Rattle.std.specs.Prelude.{ℕ, ◌≡◌, List, [], ◌∷◌, ◌++◌, map, Bool, true, false, replicate}
use Rattle.frames.specs.declared.Settings.{Settings}
use Rattle.judge.specs.Calls.{JudgeSaid, frame_call, CloseSaid, close_call}
use Rattle.judge.specs.Tapes.{frames_in, tape_call}
use Rattle.judge.specs.declared.Judge.{Judge}
use Rattle.judge.specs.declared.Judge.TheVariants.{Open, Sound, Faulty}
use Rattle.demands.specs.Numbers.Samples.{small, small_trailed, broken, least, frame, lent, ten, from}
use Rattle.demands.specs.Numbers.Stepping.{second}

abbrev pub refuses : Settings → List ℕ → Judge → ℕ
refuses s store j = (frame_call s store j (frame 0 0 0 ten)).refusal

abbrev pub close_refuses : Settings → List ℕ → Judge → ℕ
close_refuses s store j = (close_call s store j).refusal

-- the same of a tape
abbrev pub tape_refuses : Settings → List ℕ → Judge → List ℕ → ℕ
tape_refuses s store j tape = (tape_call s store j tape).refusal

-- tapes of so many octets
abbrev pub refuses_of : Settings → Judge → List ℕ → List ℕ
refuses_of s j lengths = map (λ n. tape_refuses s (lent 12) j (lent n)) lengths

pub record Refusals : Type 0 where
  -- each number alone: 1, 2, 10, 11 and none; a wrong frame is a fault, and not refused
  pub each : refuses broken (lent 12) Open
      ∷ refuses small (lent 11) Open
      ∷ refuses small (lent 12) (Sound 0 0 0)
      ∷ refuses small (lent 12) (Sound 16777216 0 0)
      ∷ refuses small (lent 12) Open
      ∷ (frame_call small (lent 12) Open []).refusal
      ∷ []
      ≡ 1 ∷ 2 ∷ 10 ∷ 11 ∷ 0 ∷ 0 ∷ []
  pub close_each : close_refuses broken (lent 12) Open
      ∷ close_refuses small (lent 11) Open
      ∷ close_refuses small (lent 12) (Sound 0 0 0)
      ∷ close_refuses small (lent 12) (Sound 16777216 0 0)
      ∷ []
      ≡ 1 ∷ 2 ∷ 10 ∷ 0 ∷ []
  -- the order: all that is wrong at once, and then one thing after another put right
  pub order : refuses broken [] (Sound 16777217 0 0) ∷ refuses small [] (Sound 16777217 0 0) ∷ refuses small (lent 12) (Sound 16777217 0 0) ∷ []
      ≡ 1 ∷ 2 ∷ 10 ∷ []
  pub close_order : close_refuses broken [] (Sound 0 0 0) ∷ close_refuses small [] (Sound 0 0 0) ∷ [] ≡ 1 ∷ 2 ∷ []
  -- a run has 16,777,216 frames at most
  pub last_frames : map (refuses small (lent 12)) (Sound 16777215 0 0 ∷ Faulty 16777215 0 ∷ []) ≡ 0 ∷ 0 ∷ []
  pub past_the_last : map (refuses small (lent 12)) (Sound 16777216 0 0 ∷ Faulty 16777216 0 ∷ []) ≡ 11 ∷ 11 ∷ []
  -- the records that frames lead to, at their edges
  pub reached : map (close_refuses small (0xE9 ∷ 0x0C ∷ lent 10)) (Open ∷ Sound 1 16777215 10 ∷ Sound 2 0 11 ∷ Faulty 1 0 ∷ Faulty 16777216 16777215 ∷ [])
      ≡ 0 ∷ 0 ∷ 0 ∷ 0 ∷ 0 ∷ []
  pub not_reached : map (close_refuses small (0xE9 ∷ 0x0C ∷ lent 10))
      (Sound 0 0 0 ∷ Sound 1 16777216 0 ∷ Sound 1 0 11 ∷ Sound 2 0 12 ∷ Sound 16777217 0 0 ∷ Faulty 1 1 ∷ Faulty 16777217 0 ∷ [])
      ≡ replicate 7 10

-- A frame of `small` has 18 octets, with a trailer 20, and one of `broken` 8.
pub record TapeRefusals : Type 0 where
  -- each number alone, over a tape of two frames: 1, 2, 10, 11, and none; and 3 over one that is an octet longer or shorter
  pub each : tape_refuses broken (lent 12) Open (lent 16)
      ∷ tape_refuses small (lent 11) Open (lent 36)
      ∷ tape_refuses small (lent 12) (Sound 0 0 0) (lent 36)
      ∷ tape_refuses small (lent 12) (Sound 16777215 0 0) (lent 36)
      ∷ tape_refuses small (lent 12) Open (lent 36)
      ∷ tape_refuses small (lent 12) Open (lent 37)
      ∷ tape_refuses small (lent 12) Open (lent 35)
      ∷ []
      ≡ 1 ∷ 2 ∷ 10 ∷ 11 ∷ 0 ∷ 3 ∷ 3 ∷ []
  -- the order: all that is wrong at once, and then one thing after another put right
  pub order : tape_refuses broken [] (Sound 16777217 0 0) (lent 37)
      ∷ tape_refuses small [] (Sound 16777217 0 0) (lent 37)
      ∷ tape_refuses small (lent 12) (Sound 16777217 0 0) (lent 37)
      ∷ tape_refuses small (lent 12) (Sound 16777215 0 0) (lent 37)
      ∷ tape_refuses small (lent 12) (Sound 16777214 0 0) (lent 37)
      ∷ tape_refuses small (lent 12) (Sound 16777214 0 0) (lent 36)
      ∷ []
      ≡ 1 ∷ 2 ∷ 10 ∷ 11 ∷ 3 ∷ 0 ∷ []
  -- the whole frames are counted, with a rest or without: of 0, 1, 2 and 3 frames, after the last frame but two
  pub last_frames : refuses_of small (Sound 16777214 0 0) (0 ∷ 18 ∷ 36 ∷ 54 ∷ []) ≡ 0 ∷ 0 ∷ 0 ∷ 11 ∷ []
  pub with_a_rest : refuses_of small (Faulty 16777214 0) (17 ∷ 35 ∷ 53 ∷ 71 ∷ []) ≡ 3 ∷ 3 ∷ 3 ∷ 11 ∷ []
  -- after the last, a tape of none is taken, a rest alone is 3, and a frame is 11, with a rest or without
  pub past_the_last : refuses_of small (Sound 16777216 0 0) (0 ∷ 1 ∷ 17 ∷ 18 ∷ 19 ∷ 37 ∷ 54 ∷ []) ≡ 0 ∷ 3 ∷ 3 ∷ 11 ∷ 11 ∷ 11 ∷ 11 ∷ []
  pub trailed : refuses_of small_trailed Open (0 ∷ 18 ∷ 20 ∷ 36 ∷ 40 ∷ []) ≡ 0 ∷ 3 ∷ 0 ∷ 3 ∷ 0 ∷ []

abbrev pub leaves : Judge → List ℕ → JudgeSaid
leaves j store = record { refusal = 0; next = j; store = store }

-- the record after a frame, from the first one on, and from one that had the count 0
abbrev pub judges : List ℕ → Judge
judges f = (frame_call small (lent 12) Open f).next

abbrev pub judges_next : List ℕ → Judge
judges_next f = (frame_call small (lent 12) (Sound 1 0 0) f).next

-- a frame that leaves two octets of a packet in the store, and the one that goes on with them
abbrev pub holds_two : List ℕ
holds_two = frame 7 0 0 (0x00 ∷ 0x05 ∷ 0xC0 ∷ 0x00 ∷ 0x00 ∷ 0x01 ∷ 0xAA ∷ 0xBB ∷ 0xE9 ∷ 0x05 ∷ [])

abbrev pub goes_on : List ℕ
goes_on = frame 8 0 3 second

pub record Faults : Type 0 where
  -- a first frame of any count, an idle zone, and one that leaves two octets of a packet in the store
  pub sound : map judges (frame 7 0 0 ten ∷ frame 7 0x07 0xFE (lent 10) ∷ []) ≡ Sound 1 7 0 ∷ Sound 1 7 0 ∷ []
  pub holding : frame_call small (lent 13) Open holds_two ≡ leaves (Sound 1 7 2) (0xE9 ∷ 0x05 ∷ lent 11)
  -- faults: refusals 3 to 7, a pointer that differs, damage
  pub refused : map judges
      ([]
      ∷ (0x90 ∷ 0x83 ∷ 0 ∷ 0 ∷ 0 ∷ 0 ∷ 0 ∷ 0 ∷ ten)
      ∷ (0x50 ∷ 0x82 ∷ 0 ∷ 0 ∷ 0 ∷ 0 ∷ 0 ∷ 0 ∷ ten)
      ∷ (0x50 ∷ 0x83 ∷ 0 ∷ 0 ∷ 0 ∷ 1 ∷ 0 ∷ 0 ∷ ten)
      ∷ frame 0 0 10 ten
      ∷ frame 0 0 1 ten
      ∷ frame 0 0x07 0xFF ten
      ∷ frame 0 0 0 (lent 10)
      ∷ [])
      ≡ replicate 8 (Faulty 1 0)
  -- frames missing; and later frames change the tally alone
  pub next : map judges_next (frame 1 0 0 ten ∷ frame 2 0 0 ten ∷ frame 0 0 0 ten ∷ []) ≡ Sound 2 1 0 ∷ Faulty 2 1 ∷ Faulty 2 1 ∷ []
  pub later : frame_call small (lent 12) (Faulty 5 2) (frame 1 0 0 ten) ≡ leaves (Faulty 6 2) (lent 12)
  -- with octets held: the packet is completed in the store, also where damage comes after it; a pointer that differs changes nothing
  pub held : map (λ f. frame_call small (0xE9 ∷ 0x05 ∷ lent 10) (Sound 1 0 2) f)
      (frame 1 0 3 second ∷ frame 1 0 3 (0x11 ∷ 0x22 ∷ 0x33 ∷ replicate 7 0x20) ∷ frame 1 0 2 second ∷ [])
      ≡ leaves (Sound 2 1 0) (0xE9 ∷ 0x05 ∷ 0x11 ∷ 0x22 ∷ 0x33 ∷ lent 7)
      ∷ leaves (Faulty 2 1) (0xE9 ∷ 0x05 ∷ 0x11 ∷ 0x22 ∷ 0x33 ∷ lent 7)
      ∷ leaves (Faulty 2 1) (0xE9 ∷ 0x05 ∷ lent 10)
      ∷ []
  -- the replay flag is free
  pub replayed : judges (0x50 ∷ 0x83 ∷ 0 ∷ 0 ∷ 7 ∷ 0x80 ∷ 0 ∷ 0 ∷ ten) ≡ Sound 1 7 0

pub record Tapes : Type 0 where
  -- octets cut into frames of nine, and what is less than a frame
  pub cut : map (λ n. frames_in least (from 1 n)) (0 ∷ 8 ∷ 9 ∷ 20 ∷ []) ≡ [] ∷ [] ∷ (from 1 9 ∷ []) ∷ (from 1 9 ∷ from 10 9 ∷ []) ∷ []
  -- sample pass 1 from count 7: its two frames in one tape, and its second frame behind the first
  pub taken : tape_call small (lent 13) Open (holds_two ++ goes_on) ≡ leaves (Sound 2 8 0) (0xE9 ∷ 0x05 ∷ 0x11 ∷ 0x22 ∷ 0x33 ∷ lent 8)
  pub first_taken : tape_call small (lent 13) Open holds_two ≡ leaves (Sound 1 7 2) (0xE9 ∷ 0x05 ∷ lent 11)
  pub second_taken : tape_call small (0xE9 ∷ 0x05 ∷ lent 11) (Sound 1 7 2) goes_on ≡ leaves (Sound 2 8 0) (0xE9 ∷ 0x05 ∷ 0x11 ∷ 0x22 ∷ 0x33 ∷ lent 8)
  -- a fault stands at its frame of the run; the frames behind it are counted, and change nothing else
  pub faulted : map (λ j. tape_call small (0xE9 ∷ 0x05 ∷ lent 10) j (goes_on ++ (goes_on ++ frame 10 0 0 ten))) (Sound 1 7 2 ∷ Sound 5 7 2 ∷ [])
      ≡ leaves (Faulty 4 2) (0xE9 ∷ 0x05 ∷ 0x11 ∷ 0x22 ∷ 0x33 ∷ lent 7) ∷ leaves (Faulty 8 6) (0xE9 ∷ 0x05 ∷ 0x11 ∷ 0x22 ∷ 0x33 ∷ lent 7) ∷ []
  pub later : tape_call small (lent 12) (Faulty 5 2) (holds_two ++ goes_on) ≡ leaves (Faulty 7 2) (lent 12)
  -- a tape of none
  pub none : map (λ j. tape_call small (0xE9 ∷ 0x05 ∷ lent 10) j []) (Open ∷ Sound 1 7 2 ∷ Sound 16777216 7 2 ∷ Faulty 16777216 3 ∷ [])
      ≡ map (λ j. leaves j (0xE9 ∷ 0x05 ∷ lent 10)) (Open ∷ Sound 1 7 2 ∷ Sound 16777216 7 2 ∷ Faulty 16777216 3 ∷ [])
  -- a refusal takes none of the frames before it
  pub refused : tape_call small (0xE9 ∷ 0x05 ∷ lent 10) (Sound 1 7 2) (goes_on ++ lent 1) ∷ tape_call small (0xE9 ∷ 0x05 ∷ lent 10) (Sound 16777215 7 2) (goes_on ++ goes_on) ∷ []
      ≡ record { refusal = 3; next = Sound 1 7 2; store = 0xE9 ∷ 0x05 ∷ lent 10 } ∷ record { refusal = 11; next = Sound 16777215 7 2; store = 0xE9 ∷ 0x05 ∷ lent 10 } ∷ []

-- what closing answers: a pass, or a fault at a frame
abbrev pub closes : Bool → ℕ → CloseSaid
closes passes at = record { accepted = true; refusal = 0; passes = passes; at = at }

pub record Verdicts : Type 0 where
  -- an empty run passes; octets that are still held are a fault at the number of frames; else the first fault's index
  pub each : map (close_call small (0xE9 ∷ 0x05 ∷ lent 10)) (Open ∷ Sound 3 0 0 ∷ Sound 3 0 2 ∷ Faulty 3 0 ∷ Faulty 3 2 ∷ [])
      ≡ closes true 0 ∷ closes true 0 ∷ closes false 3 ∷ closes false 0 ∷ closes false 2 ∷ []
  pub refused : close_call small [] Open ≡ record { accepted = false; refusal = 2; passes = false; at = 0 }
