-- The frame of a bitstream channel: its settings, its header, its zone, and what it is refused for.
use Rattle.std.specs.Prelude.{ℕ, ◌-◌, ◌*◌, Bool, not, List, ◌∷◌, nat_le}
use Rattle.octets.specs.Basics.{and, Row, row}
use Rattle.words.specs.Fields.{read}
use Rattle.words.specs.declared.Place.{Place}
use Rattle.frames.specs.Edition.{replay_place, count_in}
use Rattle.frames.specs.Link.{link_in_range, primary, zone_head}
use Rattle.frames.specs.Shape.{Shape, shape_length, shape_zone, pointer_at, spare_above, shape_unused, shape_rows, shape_heading, word_of, shape_head, shape_head_rows}
use Rattle.frames.specs.declared.bits.BitSettings.{BitSettings}
use Rattle.frames.specs.Shape.{Heading}

-- the pointers that are no place: a zone of fill alone, and one whose bits are all valid
abbrev pub fill_only : ℕ
fill_only = 16382

abbrev pub all_valid : ℕ
all_valid = 16383

-- the greatest W
abbrev pub most_width : ℕ
most_width = 2047

-- W 1 to 2,047
unfoldable pub bits_in_range : BitSettings → Bool
bits_in_range s = and (link_in_range s.link) (and (nat_le 1 s.width) (nat_le s.width most_width))

-- how many bits the zone has
abbrev pub most_bits : BitSettings → ℕ
most_bits s = 8 * s.width

-- spare 2 bits, pointer 14 bits
abbrev pub bit_pointer_place : Place
bit_pointer_place = pointer_at 14

abbrev pub bit_spare_place : Place
bit_spare_place = spare_above 14

-- a zone of W octets; a pointer from 8W-1 to 16,381 is not used
abbrev pub bits_shape : BitSettings → Shape
bits_shape s = record { link = s.link; size = s.width; width = 14; beyond = most_bits s - 1; last = 16381 }

-- W+8, and two more with a trailer
unfoldable pub bit_frame_length : BitSettings → ℕ
bit_frame_length s = shape_length (bits_shape s)

unfoldable pub bit_zone_of : BitSettings → List ℕ → List ℕ
bit_zone_of s f = shape_zone (bits_shape s) f

abbrev pub bit_count : BitSettings → List ℕ → ℕ
bit_count s f = count_in s.link.edition (primary s.link f)

abbrev pub bit_replay : BitSettings → List ℕ → ℕ
bit_replay s f = read replay_place (primary s.link f)

abbrev pub bit_pointer : BitSettings → List ℕ → ℕ
bit_pointer s f = read bit_pointer_place (zone_head s.link f)

unfoldable pub bit_unused : BitSettings → ℕ → Bool
bit_unused s p = shape_unused (bits_shape s) p

-- what a frame to be read is refused for, in order
unfoldable pub bit_frame_rows : BitSettings → List ℕ → List Row
bit_frame_rows s f = shape_rows (bits_shape s) f

-- the same of a header that is read, with the settings before all else
unfoldable pub bit_heading_rows : BitSettings → List ℕ → List Row
bit_heading_rows s f = row 1 (not (bits_in_range s)) ∷ bit_frame_rows s f

-- what a header says, where it is not refused; else the refusal alone
unfoldable pub bit_heading : BitSettings → List ℕ → Heading
bit_heading s f = shape_heading (bits_shape s) (bit_heading_rows s f) f

-- the zone's header with a pointer
abbrev pub bit_pointer_word : ℕ → ℕ
bit_pointer_word p = word_of 14 p

-- both headers of the frame with this count and pointer, as they are written: the replay flag is 0
unfoldable pub bit_head : BitSettings → ℕ → ℕ → List ℕ
bit_head s c p = shape_head (bits_shape s) c p

-- what a header to be written is refused for
unfoldable pub bit_head_rows : BitSettings → ℕ → ℕ → List ℕ → List Row
bit_head_rows s c p buffer = shape_head_rows (bits_in_range s) (bits_shape s) c p buffer
