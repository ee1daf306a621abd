-- Every field of the frame's header and of the two zone headers at its place, read and written.
use Rattle.std.specs.Prelude.{ℕ, ◌≡◌, List, [], ◌∷◌, ◌++◌, map, replicate}
use Rattle.octets.specs.Basics.{first}
use Rattle.frames.specs.Frame.{frame_length, heading, head, head_rows}
use Rattle.frames.specs.BitFrame.{bit_frame_length, bit_heading, bit_head, bit_head_rows}
use Rattle.frames.specs.Link.{missing}
use Rattle.frames.specs.declared.Settings.{Settings}
use Rattle.frames.specs.declared.bits.BitSettings.{BitSettings}
use Rattle.frames.specs.Shape.{Heading}
use Rattle.demands.specs.Numbers.Samples.{set, set_bits, small, two_octets, wrong_headers, lent}

-- ---- headers and their eight octets

pub record Header : Type 0 where
  pub spacecraft : ℕ
  pub channel : ℕ
  pub count : ℕ
  pub pointer : ℕ
  pub octets : List ℕ

abbrev pub is : ℕ → ℕ → ℕ → ℕ → List ℕ → Header
is spacecraft channel count pointer octets =
    record { spacecraft = spacecraft; channel = channel; count = count; pointer = pointer; octets = octets }

-- a header with version 01 and all else 0, but for the signalling octet, or the zone's header
abbrev pub signalling : ℕ → List ℕ
signalling octet = 0x40 ∷ 0x00 ∷ 0x00 ∷ 0x00 ∷ 0x00 ∷ octet ∷ 0x00 ∷ 0x00 ∷ []

abbrev pub pointing : ℕ → ℕ → List ℕ
pointing high low = 0x40 ∷ 0x00 ∷ 0x00 ∷ 0x00 ∷ 0x00 ∷ 0x00 ∷ high ∷ low ∷ []

-- each field of the frame's own header alone: its lowest bit, its highest and all ones
abbrev pub alone : List Header
alone =
    is 0 0 0 0 (0x40 ∷ 0x00 ∷ replicate 6 0)
    ∷ is 1 0 0 0 (0x40 ∷ 0x40 ∷ replicate 6 0)
    ∷ is 128 0 0 0 (0x60 ∷ 0x00 ∷ replicate 6 0)
    ∷ is 255 0 0 0 (0x7F ∷ 0xC0 ∷ replicate 6 0)
    ∷ is 0 1 0 0 (0x40 ∷ 0x01 ∷ replicate 6 0)
    ∷ is 0 32 0 0 (0x40 ∷ 0x20 ∷ replicate 6 0)
    ∷ is 0 62 0 0 (0x40 ∷ 0x3E ∷ replicate 6 0)
    ∷ is 0 0 1 0 (0x40 ∷ 0x00 ∷ 0x00 ∷ 0x00 ∷ 0x01 ∷ 0 ∷ 0 ∷ 0 ∷ [])
    ∷ is 0 0 8388608 0 (0x40 ∷ 0x00 ∷ 0x80 ∷ 0x00 ∷ 0x00 ∷ 0 ∷ 0 ∷ 0 ∷ [])
    ∷ is 0 0 16777215 0 (0x40 ∷ 0x00 ∷ 0xFF ∷ 0xFF ∷ 0xFF ∷ 0 ∷ 0 ∷ 0 ∷ [])
    ∷ []

-- the same and pointers that are used: for Z = 10 to 9, 2,046 and 2,047; for W = 2 to 14, 16,382 and 16,383
abbrev pub headers : List Header
headers =
    alone ++ (is 0 0 0 1 (pointing 0x00 0x01) ∷ is 0 0 0 9 (pointing 0x00 0x09) ∷ is 0 0 0 2046 (pointing 0x07 0xFE) ∷ is 0 0 0 2047 (pointing 0x07 0xFF) ∷ [])

abbrev pub bit_headers : List Header
bit_headers =
    alone ++ (is 0 0 0 1 (pointing 0x00 0x01) ∷ is 0 0 0 14 (pointing 0x00 0x0E) ∷ is 0 0 0 16382 (pointing 0x3F 0xFE) ∷ is 0 0 0 16383 (pointing 0x3F 0xFF) ∷ [])

-- the settings of a header's channel
abbrev pub of : Header → Settings
of h = set h.spacecraft h.channel 10 12

abbrev pub of_bits : Header → BitSettings
of_bits h = set_bits h.spacecraft h.channel 2

-- ---- reading

-- what a header says; and a refusal, by that number alone
abbrev pub says : ℕ → ℕ → ℕ → Heading
says count replay pointer = record { refusal = 0; count = count; replay = replay; pointer = pointer }

abbrev pub refused : ℕ → Heading
refused n = record { refusal = n; count = 0; replay = 0; pointer = 0 }

-- a header that is read for these settings, with a zone of the right length behind it
abbrev pub reads : Settings → List ℕ → Heading
reads s octets = heading s (octets ++ replicate 10 0x00)

abbrev pub reads_bits : BitSettings → List ℕ → Heading
reads_bits s octets = bit_heading s (octets ++ replicate 2 0x00)

pub record Read : Type 0 where
  pub each : map (λ h. reads (of h) h.octets) headers ≡ map (λ h. says h.count 0 h.pointer) headers
  pub each_bits : map (λ h. reads_bits (of_bits h) h.octets) bit_headers ≡ map (λ h. says h.count 0 h.pointer) bit_headers
  -- versions 00, 10 and 11; another spacecraft or channel; the replay flag, and the spare bits behind it
  pub versions : map (λ o. reads (set 0 0 10 12) (o ∷ replicate 7 0)) (0x00 ∷ 0x80 ∷ 0xC0 ∷ []) ≡ replicate 3 (refused 4)
  pub others : map (λ s. map (λ h. reads s h.octets) alone) (set 2 0 10 12 ∷ set 0 2 10 12 ∷ []) ≡ replicate 2 (replicate 10 (refused 5))
  pub signals : map (λ octet. reads (set 0 0 10 12) (signalling octet)) (0x80 ∷ 0x40 ∷ 0x01 ∷ 0x7F ∷ []) ≡ says 0 1 0 ∷ refused 6 ∷ refused 6 ∷ refused 6 ∷ []
  pub bit_versions : map (λ o. reads_bits (set_bits 0 0 2) (o ∷ replicate 7 0)) (0x00 ∷ 0x80 ∷ 0xC0 ∷ []) ≡ replicate 3 (refused 4)
  pub bit_others : map (λ s. map (λ h. reads_bits s h.octets) alone) (set_bits 2 0 2 ∷ set_bits 0 2 2 ∷ []) ≡ replicate 2 (replicate 10 (refused 5))
  pub bit_signals : map (λ octet. reads_bits (set_bits 0 0 2) (signalling octet)) (0x80 ∷ 0x40 ∷ 0x01 ∷ 0x7F ∷ []) ≡ says 0 1 0 ∷ refused 6 ∷ refused 6 ∷ refused 6 ∷ []
  -- five spare bits before a packet zone's pointer, two before a bitstream zone's
  pub spares : map (λ high. reads (set 0 0 10 12) (pointing high 0x00)) (0x08 ∷ 0x80 ∷ 0xF8 ∷ []) ≡ replicate 3 (refused 6)
  pub bit_spares : map (λ high. reads_bits (set_bits 0 0 2) (pointing high 0x00)) (0x40 ∷ 0x80 ∷ 0xC0 ∷ []) ≡ replicate 3 (refused 6)
  -- pointers that are not used: from Z to 2,045, and from 8W-1 to 16,381
  pub unused : map (reads (set 0 0 10 12)) (pointing 0x00 0x0A ∷ pointing 0x04 0x00 ∷ pointing 0x07 0xFD ∷ []) ≡ replicate 3 (refused 7)
  pub bit_unused : map (reads_bits (set_bits 0 0 2)) (pointing 0x00 0x0F ∷ pointing 0x20 0x00 ∷ pointing 0x3F 0xFD ∷ []) ≡ replicate 3 (refused 7)
  -- the order of the refusals
  pub order : (heading small (lent 19)).refusal ∷ map (λ octets. (reads small octets).refusal) wrong_headers ≡ 3 ∷ 4 ∷ 5 ∷ 6 ∷ 7 ∷ []
  pub bit_order : (bit_heading two_octets (lent 11)).refusal ∷ map (λ octets. (reads_bits two_octets octets).refusal) wrong_headers ≡ 3 ∷ 4 ∷ 5 ∷ 6 ∷ 7 ∷ []
  -- Z+8 and W+8 octets, and no other number of them
  pub lengths : frame_length small ∷ bit_frame_length two_octets ∷ [] ≡ 18 ∷ 10 ∷ []
  pub other_lengths : map (λ n. (heading (set 0 0 10 12) (signalling 0 ++ replicate n 0)).refusal) (9 ∷ 10 ∷ 11 ∷ []) ≡ 3 ∷ 0 ∷ 3 ∷ []
  pub other_bit_lengths : map (λ n. (bit_heading (set_bits 0 0 2) (signalling 0 ++ replicate n 0)).refusal) (1 ∷ 2 ∷ 3 ∷ []) ≡ 3 ∷ 0 ∷ 3 ∷ []

-- ---- writing, and the wheel

pub record Written : Type 0 where
  -- replay and spare bits are written 0
  pub each : map (λ h. head (of h) h.count h.pointer) headers ≡ map (λ h. h.octets) headers
  pub each_bits : map (λ h. bit_head (of_bits h) h.count h.pointer) bit_headers ≡ map (λ h. h.octets) bit_headers
  -- the pointers' highest bits, in longer zones
  pub highest : head (set 0 0 2046 2046) 0 1024 ∷ bit_head (set_bits 0 0 2047) 0 8192 ∷ [] ≡ pointing 0x04 0x00 ∷ pointing 0x20 0x00 ∷ []
  -- refusals: settings, room, none, and settings before room
  pub refusals : first (head_rows (set 0 0 0 12) 0 0 (lent 8)) ∷ first (head_rows small 0 0 (lent 7)) ∷ first (head_rows small 0 0 (lent 8)) ∷ first (head_rows (set 0 0 0 12) 0 0 []) ∷ []
      ≡ 1 ∷ 2 ∷ 0 ∷ 1 ∷ []
  pub bit_refusals : first (bit_head_rows (set_bits 0 0 0) 0 0 (lent 8)) ∷ first (bit_head_rows two_octets 0 0 (lent 7)) ∷ first (bit_head_rows two_octets 0 0 (lent 8)) ∷ first (bit_head_rows (set_bits 0 0 0) 0 0 []) ∷ []
      ≡ 1 ∷ 2 ∷ 0 ∷ 1 ∷ []

-- the wheel of 2^24 counts: how many frames are missing before a count
pub record Wheel : Type 0 where
  pub missing_before : missing 24 0 1 ∷ missing 24 0 2 ∷ missing 24 0 0 ∷ missing 24 16777215 0 ∷ missing 24 5 4 ∷ missing 24 5 16777215 ∷ []
      ≡ 0 ∷ 1 ∷ 16777215 ∷ 0 ∷ 16777214 ∷ 16777209 ∷ []
  -- and for numbers off the wheel
  pub off_the_wheel : missing 24 16777216 1 ∷ missing 24 0 16777218 ∷ missing 24 4294967295 4294967295 ∷ [] ≡ 0 ∷ 1 ∷ 16777215 ∷ []
