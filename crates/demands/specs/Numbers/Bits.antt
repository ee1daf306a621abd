-- The bitstream channel: what writing and reading are refused for, the frames that are written, and what is read of them.
use Rattle.std.specs.Prelude.{ℕ, zero, suc, ◌≡◌, List, [], ◌∷◌, ◌++◌, map, Bool, true, false, take, drop, replicate, eqb}
use Rattle.octets.specs.Basics.{pick}
use Rattle.frames.specs.declared.bits.BitSettings.{BitSettings}
use Rattle.bitstream.specs.Bitstream.{begun, frame_with, Wrote, written, Reading, reading, leading_octets}
use Rattle.bitstream.specs.Loss.{BitsSaid}
use Rattle.bitstream.specs.Statements.{RunRead, run_read}
use Rattle.bitstream.specs.declared.Reader.{Reader}
use Rattle.bitstream.specs.declared.Reader.TheVariants.{Fresh, Last}
use Rattle.demands.specs.Numbers.Samples.{set_bits, two_octets, two_trailed, no_octets, frame, wrong_headers, lent}

-- with a writer of this count, so many octets of bits, n bits, and a frame of so much room
abbrev pub refuses_write : BitSettings → ℕ → ℕ → ℕ → ℕ → ℕ
refuses_write s count octets n room = (written s (record { count = count }) (lent octets) n (lent room)).said.refusal

abbrev pub refuses_read : BitSettings → Reader → List ℕ → ℕ
refuses_read s x f = (reading s x f).refusal

pub record Refusals : Type 0 where
  -- each number alone: 1, 2, 10 and none; then all that is wrong at once, and one thing after another put right
  pub write : refuses_write no_octets 0 0 0 10
      ∷ refuses_write two_octets 0 3 17 10
      ∷ refuses_write two_octets 0 2 16 9
      ∷ refuses_write two_octets 0 1 9 10
      ∷ refuses_write two_octets 16777216 2 16 10
      ∷ refuses_write two_octets 16777215 2 16 10
      ∷ []
      ≡ 1 ∷ 1 ∷ 2 ∷ 2 ∷ 10 ∷ 0 ∷ []
  pub write_order : refuses_write two_octets 16777216 0 17 0 ∷ refuses_write two_octets 16777216 0 16 10 ∷ [] ≡ 1 ∷ 2 ∷ []
  -- 1, 10, 3, 4, 5, 6, 7 and none; and again all that is wrong at once
  pub read : refuses_read no_octets Fresh (frame 0 0 0 [])
      ∷ refuses_read two_octets (Last 16777216 false) (frame 0 0 0 (lent 2))
      ∷ refuses_read two_octets Fresh (frame 0 0 0 (lent 3))
      ∷ refuses_read two_octets Fresh (0x90 ∷ 0x83 ∷ 0 ∷ 0 ∷ 0 ∷ 0 ∷ 0 ∷ 0 ∷ lent 2)
      ∷ refuses_read two_octets Fresh (0x50 ∷ 0xC3 ∷ 0 ∷ 0 ∷ 0 ∷ 0 ∷ 0 ∷ 0 ∷ lent 2)
      ∷ refuses_read two_octets Fresh (0x50 ∷ 0x82 ∷ 0 ∷ 0 ∷ 0 ∷ 0 ∷ 0 ∷ 0 ∷ lent 2)
      ∷ refuses_read two_octets Fresh (0x50 ∷ 0x83 ∷ 0 ∷ 0 ∷ 0 ∷ 1 ∷ 0 ∷ 0 ∷ lent 2)
      ∷ refuses_read two_octets Fresh (frame 0 0x40 0 (lent 2))
      ∷ refuses_read two_octets Fresh (frame 0 0 15 (lent 2))
      ∷ refuses_read two_octets (Last 16777215 true) (frame 0 0 14 (lent 2))
      ∷ []
      ≡ 1 ∷ 10 ∷ 3 ∷ 4 ∷ 5 ∷ 5 ∷ 6 ∷ 6 ∷ 7 ∷ 0 ∷ []
  pub read_order : refuses_read no_octets (Last 16777216 true) (lent 11)
      ∷ refuses_read two_octets (Last 16777216 true) (lent 11)
      ∷ refuses_read two_octets Fresh (lent 11)
      ∷ map (λ octets. refuses_read two_octets Fresh (octets ++ lent 2)) wrong_headers
      ≡ 1 ∷ 10 ∷ 3 ∷ 4 ∷ 5 ∷ 6 ∷ 7 ∷ []

-- a frame that is written and the count after it; eleven octets are lent, one more than it has
abbrev pub writes : ℕ → ℕ → List ℕ → Wrote
writes count n bits = written two_octets (record { count = count }) bits n (lent 11)

abbrev pub wrote : ℕ → List ℕ → Wrote
wrote count octets = record { said = record { refusal = 0; writer = record { count = count } }; frame = octets ++ lent 1 }

-- what is said of a frame that is read, and of a loss that waits after it
abbrev pub says : ℕ → ℕ → ℕ → Bool → Bool → Reading
says count replay bits lost waiting = record { refusal = 0; count = count; replay = replay; bits = bits; lost = lost; reader = Last count waiting }

-- last counts that 0 does not follow: 1, 2, 256, 65,536 and half the wheel's frames are missing; and the same count and some behind it
abbrev pub not_before : List ℕ
not_before = 16777214 ∷ 16777213 ∷ 16776959 ∷ 16711679 ∷ 8388608 ∷ 8388607 ∷ 65535 ∷ 255 ∷ 1 ∷ 0 ∷ []

pub record Frames : Type 0 where
  pub begins : begun ≡ record { count = 0 }
  -- no bits, then 1, 8, 9, 15 and 16 of them: the pointer, the bits, and fill at the same places, which is 55
  pub none : writes 0 0 [] ≡ wrote 1 (frame 0 0x3F 0xFE (0x55 ∷ 0x55 ∷ []))
  pub some : map (λ n. writes 0 n (0x80 ∷ 0xFC ∷ [])) (1 ∷ 8 ∷ 9 ∷ 15 ∷ 16 ∷ [])
      ≡ wrote 1 (frame 0 0x00 0x00 (0xD5 ∷ 0x55 ∷ []))
      ∷ wrote 1 (frame 0 0x00 0x07 (0x80 ∷ 0x55 ∷ []))
      ∷ wrote 1 (frame 0 0x00 0x08 (0x80 ∷ 0xD5 ∷ []))
      ∷ wrote 1 (frame 0 0x00 0x0E (0x80 ∷ 0xFD ∷ []))
      ∷ wrote 1 (frame 0 0x3F 0xFF (0x80 ∷ 0xFC ∷ []))
      ∷ []
  pub longer : (written (set_bits 66 3 4) begun (0xA1 ∷ 0x22 ∷ 0x80 ∷ []) 17 (lent 12)).frame ≡ frame 0 0x00 0x10 (0xA1 ∷ 0x22 ∷ 0xD5 ∷ 0x55 ∷ [])
  -- the greatest count is followed by 0
  pub wheel : writes 16777215 0 [] ≡ wrote 0 (0x50 ∷ 0x83 ∷ 0xFF ∷ 0xFF ∷ 0xFF ∷ 0x00 ∷ 0x3F ∷ 0xFE ∷ 0x55 ∷ 0x55 ∷ [])
  -- read: valid bits by the pointer, and the replay flag
  pub valid : map (λ low. reading two_octets Fresh (frame 9 0x00 low (lent 2))) (0 ∷ 14 ∷ []) ≡ says 9 0 1 false false ∷ says 9 0 15 false false ∷ []
  pub reserved : map (λ low. reading two_octets Fresh (frame 9 0x3F low (lent 2))) (0xFE ∷ 0xFF ∷ []) ≡ says 9 0 0 false false ∷ says 9 0 16 false false ∷ []
  pub replayed : reading two_octets Fresh (0x50 ∷ 0x83 ∷ 1 ∷ 2 ∷ 3 ∷ 0x80 ∷ 0 ∷ 0 ∷ lent 2) ≡ says 0x010203 1 1 false false
  -- a unit with bits has the flag where its count does not follow the last one, or a loss waits; after it none waits
  pub follows : map (λ last. reading two_octets (Last last false) (frame 0 0x00 0 (lent 2))) (16777215 ∷ not_before)
      ≡ says 0 0 1 false false ∷ replicate 10 (says 0 0 1 true false)
  pub waited : map (λ last. reading two_octets (Last last true) (frame 0 0x00 0 (lent 2))) (16777215 ∷ 0 ∷ 16777214 ∷ []) ≡ replicate 3 (says 0 0 1 true false)
  -- a unit of fill alone hands over no bits and has the flag clear; what is lost waits
  pub fill_alone : map (λ last. reading two_octets (Last last false) (frame 0 0x3F 0xFE (lent 2))) (16777215 ∷ not_before)
      ≡ says 0 0 0 false false ∷ replicate 10 (says 0 0 0 false true)
  pub fill_waits : map (λ last. reading two_octets (Last last true) (frame 0 0x3F 0xFE (lent 2))) (16777215 ∷ 0 ∷ 5 ∷ []) ≡ replicate 3 (says 0 0 0 false true)
  -- as few octets as hold the bits; none for more than the zone has, or of another frame
  pub leading : map (λ n. leading_octets two_octets n (frame 0 0 0 (0xA1 ∷ 0xA2 ∷ []))) (0 ∷ 1 ∷ 8 ∷ 9 ∷ 16 ∷ 17 ∷ [])
      ≡ [] ∷ (0xA1 ∷ []) ∷ (0xA1 ∷ []) ∷ (0xA1 ∷ 0xA2 ∷ []) ∷ (0xA1 ∷ 0xA2 ∷ []) ∷ [] ∷ []
  pub other_length : leading_octets two_octets 1 (frame 0 0 0 (lent 3)) ≡ []

-- frames of fill alone and with bits, by the last octet of the count; fill at the wheel's end; the same frame replayed; and frames refused by 3 to 7,
-- with the count 9
abbrev pub fill : ℕ → List ℕ
fill count = frame count 0x3F 0xFE (lent 2)

abbrev pub bits : ℕ → List ℕ
bits count = frame count 0x00 0x00 (lent 2)

abbrev pub late : ℕ → List ℕ
late count = 0x50 ∷ 0x83 ∷ 0xFF ∷ 0xFF ∷ count ∷ 0x00 ∷ 0x3F ∷ 0xFE ∷ lent 2

abbrev pub replayed : List ℕ → List ℕ
replayed f = take 5 f ++ (0x80 ∷ drop 6 f)

abbrev pub unreadable : List (List ℕ)
unreadable =
    frame 9 0x00 0x00 (lent 3)
    ∷ (0x90 ∷ 0x83 ∷ 0x00 ∷ 0x00 ∷ 9 ∷ 0x00 ∷ 0x00 ∷ 0x00 ∷ lent 2)
    ∷ (0x50 ∷ 0x82 ∷ 0x00 ∷ 0x00 ∷ 9 ∷ 0x00 ∷ 0x00 ∷ 0x00 ∷ lent 2)
    ∷ (0x50 ∷ 0x83 ∷ 0x00 ∷ 0x00 ∷ 9 ∷ 0x01 ∷ 0x00 ∷ 0x00 ∷ lent 2)
    ∷ frame 9 0x00 0x0F (lent 2)
    ∷ []

-- so many counts from c on
abbrev pub counts : ℕ → ℕ → List ℕ
counts zero c = []
counts (suc k) c = c ∷ counts k (suc c)

-- frame 8 is lost in the fill of a channel
abbrev pub lost_in_fill : BitSettings → List (List ℕ)
lost_in_fill s = map (λ c. frame_with s c 0 []) (7 ∷ 9 ∷ 10 ∷ []) ++ map (λ c. frame_with s c 1 (0x80 ∷ [])) (11 ∷ 12 ∷ [])

-- the flags of a run, of its frames that are not refused; and what is left
abbrev pub run : List (List ℕ) → RunRead
run fs = run_read two_octets Fresh fs

abbrev pub flags_in : List BitsSaid → List Bool
flags_in [] = []
flags_in (a ∷ rest) = pick (eqb a.refusal 0) (a.lost ∷ flags_in rest) (flags_in rest)

abbrev pub flags : List (List ℕ) → List Bool
flags fs = flags_in (run fs).said

-- Document 02's request L3, run by run.
pub record Losses : Type 0 where
  -- nothing is lost: bits and fill in turn; the first frame has none to follow
  pub in_step : map flags ((bits 0 ∷ fill 1 ∷ bits 2 ∷ bits 3 ∷ []) ∷ (fill 7 ∷ fill 8 ∷ bits 9 ∷ []) ∷ (bits 7 ∷ bits 8 ∷ []) ∷ [])
      ≡ replicate 4 false ∷ replicate 3 false ∷ replicate 2 false ∷ []
  -- round the wheel: nothing is lost; frame 0 is; and one before the wheel turns
  pub wheel : map flags ((late 0xFF ∷ fill 0 ∷ bits 1 ∷ []) ∷ (late 0xFF ∷ fill 1 ∷ bits 2 ∷ []) ∷ (late 0xFD ∷ late 0xFF ∷ fill 0 ∷ bits 1 ∷ []) ∷ [])
      ≡ replicate 3 false ∷ (false ∷ false ∷ true ∷ []) ∷ (false ∷ false ∷ false ∷ true ∷ []) ∷ []
  -- frame 2 is lost in fill: the next bits tell it, and no others
  pub in_fill : flags (bits 0 ∷ fill 1 ∷ fill 3 ∷ fill 4 ∷ fill 5 ∷ bits 6 ∷ bits 7 ∷ fill 8 ∷ bits 9 ∷ [])
      ≡ false ∷ false ∷ false ∷ false ∷ false ∷ true ∷ false ∷ false ∷ false ∷ []
  -- however long the fill
  pub long_fill : flags (bits 0 ∷ (map fill (counts 250 2) ++ (bits 252 ∷ bits 253 ∷ []))) ≡ replicate 251 false ++ (true ∷ false ∷ [])
  -- in zones of one and of four octets, and with trailers
  pub channels : map (λ (s : BitSettings). flags_in (run_read s Fresh (lost_in_fill s)).said) (set_bits 5 3 1 ∷ set_bits 255 62 4 ∷ two_trailed ∷ []) ≡ replicate 3 (false ∷ false ∷ false ∷ true ∷ false ∷ [])
  -- two are lost in one fill, and one there and one at the bits: told once
  pub two : map flags ((bits 0 ∷ fill 2 ∷ fill 4 ∷ bits 5 ∷ bits 6 ∷ []) ∷ (bits 0 ∷ fill 1 ∷ fill 3 ∷ bits 5 ∷ bits 6 ∷ []) ∷ [])
      ≡ replicate 2 (false ∷ false ∷ false ∷ true ∷ false ∷ [])
  -- one is lost at the bits, behind fill and behind bits
  pub own : map flags ((bits 0 ∷ fill 1 ∷ bits 3 ∷ bits 4 ∷ []) ∷ (bits 0 ∷ bits 1 ∷ bits 3 ∷ bits 4 ∷ []) ∷ [])
      ≡ replicate 2 (false ∷ false ∷ true ∷ false ∷ [])
  pub each_bits : flags (bits 0 ∷ bits 2 ∷ bits 4 ∷ fill 6 ∷ bits 7 ∷ []) ≡ false ∷ true ∷ true ∷ false ∷ true ∷ []
  -- before any bits, since the first frame
  pub from_the_start : map flags ((fill 7 ∷ fill 9 ∷ fill 10 ∷ bits 11 ∷ bits 12 ∷ []) ∷ (fill 7 ∷ fill 8 ∷ fill 9 ∷ bits 11 ∷ bits 12 ∷ []) ∷ [])
      ≡ replicate 2 (false ∷ false ∷ false ∷ true ∷ false ∷ [])
  -- the same count again, and the one before it, do not follow
  pub again : map flags ((bits 4 ∷ fill 5 ∷ fill 5 ∷ bits 6 ∷ []) ∷ (bits 4 ∷ fill 5 ∷ fill 4 ∷ bits 5 ∷ []) ∷ (bits 4 ∷ fill 5 ∷ bits 6 ∷ bits 6 ∷ []) ∷ [])
      ≡ replicate 3 (false ∷ false ∷ false ∷ true ∷ [])
  -- a unit has bits from one on; with all of them too
  pub few : map (λ low. flags (bits 0 ∷ fill 2 ∷ frame 3 0x00 low (lent 2) ∷ bits 4 ∷ [])) (0 ∷ 1 ∷ 6 ∷ 7 ∷ 8 ∷ 14 ∷ []) ≡ replicate 6 (false ∷ false ∷ true ∷ false ∷ [])
  pub all : flags (bits 0 ∷ fill 2 ∷ frame 3 0x3F 0xFF (lent 2) ∷ bits 4 ∷ []) ≡ false ∷ false ∷ true ∷ false ∷ []
  -- replayed frames follow, fail to and tell as all others
  pub replays : map flags ((bits 0 ∷ replayed (fill 1) ∷ replayed (bits 2) ∷ []) ∷ (bits 0 ∷ replayed (fill 2) ∷ bits 3 ∷ []) ∷ (bits 0 ∷ fill 2 ∷ replayed (bits 3) ∷ []) ∷ (fill 2 ∷ fill 4 ∷ replayed (fill 5) ∷ bits 6 ∷ []) ∷ [])
      ≡ replicate 3 false ∷ (false ∷ false ∷ true ∷ []) ∷ (false ∷ false ∷ true ∷ []) ∷ (false ∷ false ∷ false ∷ true ∷ []) ∷ []
  -- refused frames say their number, and nothing follows them or fails to
  pub refusals : map (λ (a : BitsSaid). a.refusal) (run (bits 0 ∷ unreadable)).said ≡ 0 ∷ 3 ∷ 4 ∷ 5 ∷ 6 ∷ 7 ∷ []
  pub refused : map (λ (f : List ℕ). flags (f ∷ bits 0 ∷ f ∷ fill 1 ∷ f ∷ bits 2 ∷ f ∷ bits 3 ∷ [])) unreadable ≡ replicate 5 (replicate 4 false)
  pub refused_waits : map (λ (f : List ℕ). flags (bits 0 ∷ f ∷ fill 2 ∷ f ∷ bits 3 ∷ f ∷ bits 4 ∷ [])) unreadable
      ≡ replicate 5 (false ∷ false ∷ true ∷ false ∷ [])
  -- the record: no frame yet, the last count, and whether a loss waits
  pub left : map (λ (fs : List (List ℕ)). (run fs).reader) ([] ∷ unreadable ∷ (bits 0 ∷ fill 2 ∷ []) ∷ (bits 0 ∷ fill 2 ∷ unreadable) ∷ (bits 0 ∷ fill 2 ∷ bits 3 ∷ []) ∷ (bits 0 ∷ bits 2 ∷ []) ∷ [])
      ≡ Fresh ∷ Fresh ∷ Last 2 true ∷ Last 2 true ∷ Last 3 false ∷ Last 2 false ∷ []
