-- The frame of a packet channel: its settings, its header, its zone, and what it is refused for.
use Rattle.std.specs.Prelude.{◌≡◌, ℕ, Bool, not, List, ◌∷◌, length, nat_le}
use Rattle.octets.specs.Basics.{and, All, Row, row}
use Rattle.words.specs.Fields.{read}
use Rattle.words.specs.declared.Place.{Place}
use Rattle.frames.specs.Edition.{replay_place, count_in, signals}
use Rattle.frames.specs.Link.{link_in_range, primary, zone_head, version_place, spacecraft_place, channel_place}
use Rattle.frames.specs.Shape.{Shape, shape_length, shape_zone, pointer_at, spare_above, shape_unused, shape_rows, shape_heading, word_of, shape_head, shape_head_rows}
unfoldable pub use Rattle.frames.specs.Shape.{no_heading, heading_of}
use Rattle.frames.specs.declared.Settings.{Settings}
use Rattle.frames.specs.Shape.{Heading}

-- the pointers that are no offset
abbrev pub idle_zone : ℕ
idle_zone = 2046

abbrev pub no_start : ℕ
no_start = 2047

-- a judged run has so many frames at most
abbrev pub most_frames : ℕ
most_frames = 16777216

-- M from the greater of 7 and Z to 65,542; Z 1 to 2,046
unfoldable pub in_range : Settings → Bool
in_range s =
    and (link_in_range s.link)
    (and (nat_le 1 s.zone)
    (and (nat_le s.zone 2046)
    (and (nat_le s.zone s.limit) (and (nat_le 7 s.limit) (nat_le s.limit 65542)))))

-- spare 5 bits, pointer 11 bits
abbrev pub pointer_place : Place
pointer_place = pointer_at 11

abbrev pub zone_spare_place : Place
zone_spare_place = spare_above 11

-- a zone of Z octets; a pointer from Z to 2,045 is not used
abbrev pub packet_shape : Settings → Shape
packet_shape s = record { link = s.link; size = s.zone; width = 11; beyond = s.zone; last = 2045 }

-- Z+8, and two more with a trailer
unfoldable pub frame_length : Settings → ℕ
frame_length s = shape_length (packet_shape s)

-- frames that each have that length
abbrev pub Frames : Settings → List (List ℕ) → Type 0
Frames s fs = All (λ (f : List ℕ). length f ≡ frame_length s) fs

unfoldable pub zone_of : Settings → List ℕ → List ℕ
zone_of s f = shape_zone (packet_shape s) f

abbrev pub version : Settings → List ℕ → ℕ
version s f = read version_place (primary s.link f)

abbrev pub spacecraft : Settings → List ℕ → ℕ
spacecraft s f = read spacecraft_place (primary s.link f)

abbrev pub channel : Settings → List ℕ → ℕ
channel s f = read channel_place (primary s.link f)

-- whether the bits below the replay flag are as the channel's edition has them
abbrev pub signalled : Settings → List ℕ → Bool
signalled s f = signals s.link.edition (primary s.link f)

abbrev pub count : Settings → List ℕ → ℕ
count s f = count_in s.link.edition (primary s.link f)

abbrev pub replay : Settings → List ℕ → ℕ
replay s f = read replay_place (primary s.link f)

abbrev pub zone_spare : Settings → List ℕ → ℕ
zone_spare s f = read zone_spare_place (zone_head s.link f)

abbrev pub pointer : Settings → List ℕ → ℕ
pointer s f = read pointer_place (zone_head s.link f)

unfoldable pub unused : Settings → ℕ → Bool
unused s p = shape_unused (packet_shape s) p

-- what a frame to be read is refused for, in order
unfoldable pub frame_rows : Settings → List ℕ → List Row
frame_rows s f = shape_rows (packet_shape s) f

-- the same of a header that is read, with the settings before all else
unfoldable pub heading_rows : Settings → List ℕ → List Row
heading_rows s f = row 1 (not (in_range s)) ∷ frame_rows s f

-- what a header says, where it is not refused; else the refusal alone
unfoldable pub heading : Settings → List ℕ → Heading
heading s f = shape_heading (packet_shape s) (heading_rows s f) f

-- the zone's header with a pointer
abbrev pub pointer_word : ℕ → ℕ
pointer_word p = word_of 11 p

-- both headers of the frame with this count and pointer, as they are written: the replay flag is 0
unfoldable pub head : Settings → ℕ → ℕ → List ℕ
head s c p = shape_head (packet_shape s) c p

-- what a header to be written is refused for
unfoldable pub head_rows : Settings → ℕ → ℕ → List ℕ → List Row
head_rows s c p buffer = shape_head_rows (in_range s) (packet_shape s) c p buffer
