-- The trailer by examples: its octets, the lengths with it, when it is written, and what is refused by it, before all that the header says.
use Rattle.std.specs.Prelude.{ℕ, ◌≡◌, List, [], ◌∷◌, ◌++◌, map, true, false, drop, replicate}
use Rattle.trailer.specs.Trailer.{extra, wrong, ended}
use Rattle.trailer.specs.Vectors.{Vectors}
use Rattle.frames.specs.Frame.{frame_length, heading}
use Rattle.frames.specs.BitFrame.{bit_frame_length, bit_heading}
use Rattle.frames.specs.declared.Settings.{Settings}
use Rattle.multiplexer.specs.Calls.{Call, to_put, to_flush, to_idle, Answer, answer}
use Rattle.multiplexer.specs.declared.Mux.{Mux}
use Rattle.extractor.specs.Answers.{refused_entry, enter_answer, step_answer}
use Rattle.extractor.specs.declared.Extractor.TheVariants.{InStep, Walking}
use Rattle.judge.specs.Calls.{frame_call}
use Rattle.judge.specs.declared.Judge.TheVariants.{Sound, Faulty}
use Rattle.bitstream.specs.Bitstream.{written, reading, leading_octets}
use Rattle.bitstream.specs.declared.Reader.TheVariants.{Last}
use Rattle.demands.specs.Numbers.Samples.{set, trailing, small_trailed, two_trailed, frame, wrong_headers, lent, ten, seven}
use Rattle.demands.specs.Numbers.Multiplexing.{mux, done}
use Rattle.demands.specs.Numbers.Bits.{says}

-- the digits 1 to 9
abbrev pub digits : List ℕ
digits = 0x31 ∷ 0x32 ∷ 0x33 ∷ 0x34 ∷ 0x35 ∷ 0x36 ∷ 0x37 ∷ 0x38 ∷ 0x39 ∷ []

-- ---- the trailer alone

pub record Octets : Type 0 where
  pub vectors : Vectors
  -- two octets more with it, and none without
  pub longer : map extra (true ∷ false ∷ []) ≡ 2 ∷ 0 ∷ []
  -- right with its high octet first; wrong where they are swapped, where a bit differs before it or in it, and in fewer octets than it has; never wrong where there is none
  pub right : wrong true (digits ++ (0x29 ∷ 0xB1 ∷ [])) ≡ false
  pub wrong_ones : map (wrong true) ((digits ++ (0xB1 ∷ 0x29 ∷ [])) ∷ (0x30 ∷ drop 1 digits ++ (0x29 ∷ 0xB1 ∷ [])) ∷ (digits ++ (0x29 ∷ 0xB0 ∷ [])) ∷ (digits ++ (0x29 ∷ [])) ∷ (0xFF ∷ []) ∷ [] ∷ [])
      ≡ replicate 6 true
  pub none : map (wrong false) ((digits ++ (0x29 ∷ 0xB1 ∷ [])) ∷ (digits ++ (0xB1 ∷ 0x29 ∷ [])) ∷ [] ∷ []) ≡ replicate 3 false
  -- written behind so many octets, over two that were lent; nothing where it does not fit, or where there is none
  pub written : map (λ n. ended true (digits ++ lent n) 9) (1 ∷ 2 ∷ 3 ∷ []) ≡ (digits ++ lent 1) ∷ (digits ++ (0x29 ∷ 0xB1 ∷ [])) ∷ (digits ++ (0x29 ∷ 0xB1 ∷ 0xFF ∷ [])) ∷ []
  pub far : ended true digits 10 ≡ digits
  pub unwritten : ended false (digits ++ lent 3) 9 ≡ digits ++ lent 3

-- ---- refusals

-- the trailers of the wrong headers, each over its header and a zone of zeros: of ten octets, and of two
abbrev pub own : List (List ℕ)
own = (0x1E ∷ 0xD4 ∷ []) ∷ (0xF9 ∷ 0xCB ∷ []) ∷ (0x93 ∷ 0x31 ∷ []) ∷ (0x06 ∷ 0xD6 ∷ []) ∷ []

abbrev pub bits_own : List (List ℕ)
bits_own = (0x4E ∷ 0xC0 ∷ []) ∷ (0xAA ∷ 0xF4 ∷ []) ∷ (0xDB ∷ 0x83 ∷ []) ∷ (0xB9 ∷ 0x72 ∷ []) ∷ []

-- what each header is refused for with the trailer at its place
abbrev pub reads : List (List ℕ) → List (List ℕ) → List ℕ
reads [] ts = []
reads (h ∷ hs) [] = []
reads (h ∷ hs) (t ∷ ts) = (heading small_trailed (h ++ (replicate 10 0 ++ t))).refusal ∷ reads hs ts

abbrev pub reads_bits : List (List ℕ) → List (List ℕ) → List ℕ
reads_bits [] ts = []
reads_bits (h ∷ hs) [] = []
reads_bits (h ∷ hs) (t ∷ ts) = (bit_heading two_trailed (h ++ (replicate 2 0 ++ t))).refusal ∷ reads_bits hs ts

-- the channel that is kept for fill frames
abbrev pub channel_63 : Settings
channel_63 = trailing true (set 66 63 10 12)

pub record Refusals : Type 0 where
  -- Z+10 and W+10 octets, and no other number of them
  pub lengths : frame_length small_trailed ∷ bit_frame_length two_trailed ∷ [] ≡ 20 ∷ 12 ∷ []
  pub other_lengths : map (λ n. (heading small_trailed (lent n)).refusal) (18 ∷ 19 ∷ 20 ∷ 21 ∷ []) ≡ 3 ∷ 3 ∷ 13 ∷ 3 ∷ []
  pub other_bit_lengths : map (λ n. (bit_heading two_trailed (lent n)).refusal) (10 ∷ 11 ∷ 12 ∷ 13 ∷ []) ≡ 3 ∷ 3 ∷ 13 ∷ 3 ∷ []
  -- whatever else is wrong, the trailer is named before it; and where it is right, what the header is refused for
  pub before : reads wrong_headers (replicate 4 (lent 2)) ≡ replicate 4 13
  pub behind : reads wrong_headers own ≡ 4 ∷ 5 ∷ 6 ∷ 7 ∷ []
  pub bits_before : reads_bits wrong_headers (replicate 4 (lent 2)) ≡ replicate 4 13
  pub bits_behind : reads_bits wrong_headers bits_own ≡ 4 ∷ 5 ∷ 6 ∷ 7 ∷ []
  -- and behind the settings, the store, the record and the moment
  pub last : (enter_answer channel_63 (Walking 16777216 0 0) [] (lent 20)).answer.refusal
      ∷ (enter_answer small_trailed (Walking 16777216 0 0) [] (lent 20)).answer.refusal
      ∷ (enter_answer small_trailed (Walking 16777216 0 0) (lent 12) (lent 20)).answer.refusal
      ∷ (enter_answer small_trailed (Walking 0 0 0) (lent 12) (lent 20)).answer.refusal
      ∷ (enter_answer small_trailed (InStep 0 0) (lent 12) (lent 20)).answer.refusal
      ∷ []
      ≡ 1 ∷ 2 ∷ 10 ∷ 9 ∷ 13 ∷ []
  pub bits_last : map (λ c. (reading two_trailed (Last c false) (lent 12)).refusal) (16777216 ∷ 16777215 ∷ []) ≡ 10 ∷ 13 ∷ []

-- ---- what is written and read

-- twenty-two octets are lent, two more than a frame has
abbrev pub calls : Mux → Call → Answer
calls m c = answer small_trailed m c (lent 22)

-- a frame with a packet of ten octets, its count 7 and its trailer
abbrev pub seventh : ℕ → ℕ → List ℕ
seventh high low = frame 7 0 0 (ten ++ (high ∷ low ∷ []))

pub record Outcomes : Type 0 where
  -- a zone that is not full: its frame's header and trailer stay as lent
  pub begun_zone : calls (mux 0 0 2047 0) (to_put seven) ≡ done false true (mux 0 7 0 0) (lent 8 ++ (seven ++ lent 7))
  -- a packet, a flush and an idle zone that fill it: the trailer is that of all octets before it
  pub full_zone : calls (mux 0 0 2047 0) (to_put ten) ≡ done true true (mux 1 0 2047 0) (frame 0 0 0 (ten ++ (0xED ∷ 0xD7 ∷ lent 2)))
  pub flushed : calls (mux 16777215 7 0 0) to_flush
      ≡ done true true (mux 0 0 2047 0) (0x50 ∷ 0x83 ∷ 0xFF ∷ 0xFF ∷ 0xFF ∷ 0 ∷ 0 ∷ 0 ∷ (lent 7 ++ (0xE1 ∷ 3 ∷ 0x55 ∷ 0x06 ∷ 0xCD ∷ lent 2)))
  pub idle_zone : calls (mux 16777215 0 2047 0) to_idle
      ≡ done true false (mux 0 0 2047 0) (0x50 ∷ 0x83 ∷ 0xFF ∷ 0xFF ∷ 0xFF ∷ 0 ∷ 0x07 ∷ 0xFE ∷ (replicate 10 0x55 ++ (0xFF ∷ 0x25 ∷ lent 2)))
  pub room : map (λ (c : Call). map (λ n. (answer small_trailed (mux 0 0 2047 0) c (lent n)).refusal) (18 ∷ 19 ∷ 20 ∷ [])) (to_put ten ∷ to_put seven ∷ to_flush ∷ to_idle ∷ [])
      ≡ replicate 4 (2 ∷ 2 ∷ 0 ∷ [])
  -- entered with the right one; refused with another, by which the record stays; and a step does not ask for it
  pub entered : map (λ low. enter_answer small_trailed (InStep 6 0) (lent 12) (seventh 0x9D low)) (0xD1 ∷ 0xD0 ∷ [])
      ≡ record { answer = record { refusal = 0; outcome = 1; count = 7; replay = 0; lost = 0; dropped = 0; reason = 0; damage = 0 }; next = Walking 7 0 0 }
      ∷ record { answer = refused_entry 13; next = InStep 6 0 }
      ∷ []
  pub stepped : map (λ low. (step_answer small_trailed (Walking 7 0 0) (lent 12) (seventh 0x9D low)).answer.refusal) (0xD1 ∷ 0xD0 ∷ []) ≡ 0 ∷ 0 ∷ []
  -- a fault for the judge, and no refusal
  pub judged : map (λ low. frame_call small_trailed (lent 12) (Sound 1 6 0) (seventh 0x9D low)) (0xD1 ∷ 0xD0 ∷ [])
      ≡ record { refusal = 0; next = Sound 2 7 0; store = lent 12 } ∷ record { refusal = 0; next = Faulty 2 1; store = lent 12 } ∷ []
  -- bits: written, read back, refused
  pub bits_written : written two_trailed (record { count = 4 }) (0xAB ∷ []) 8 (lent 13)
      ≡ record { said = record { refusal = 0; writer = record { count = 5 } }; frame = frame 4 0x00 0x07 (0xAB ∷ 0x55 ∷ 0xDD ∷ 0xA6 ∷ 0xFF ∷ []) }
  pub bits_room : map (λ n. (written two_trailed (record { count = 4 }) [] 0 (lent n)).said.refusal) (10 ∷ 11 ∷ 12 ∷ []) ≡ 2 ∷ 2 ∷ 0 ∷ []
  pub bits_read : reading two_trailed (Last 3 true) (frame 4 0x00 0x07 (0xAB ∷ 0x55 ∷ 0xDD ∷ 0xA6 ∷ [])) ≡ says 4 0 8 true false
  pub bits_refused : reading two_trailed (Last 3 true) (frame 4 0x00 0x07 (0xAB ∷ 0x55 ∷ 0xDD ∷ 0xA7 ∷ []))
      ≡ record { refusal = 13; count = 0; replay = 0; bits = 0; lost = false; reader = Last 3 true }
  -- the octets that hold them are the zone's, never the trailer's
  pub leading : map (λ n. leading_octets two_trailed n (frame 4 0x00 0x07 (0xAB ∷ 0x55 ∷ 0xDD ∷ 0xA6 ∷ []))) (8 ∷ 16 ∷ 17 ∷ []) ≡ (0xAB ∷ []) ∷ (0xAB ∷ 0x55 ∷ []) ∷ [] ∷ []
