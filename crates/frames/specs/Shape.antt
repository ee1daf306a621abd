-- The frames of both channels, over the shape in which they differ.
use Rattle.std.specs.Prelude.{ℕ, ◌+◌, ◌-◌, ◌^◌, Bool, not, List, [], ◌∷◌, ◌++◌, length, take, drop, ◌==◌, nat_le, nat_lt, Result, Ok, Err}
use Rattle.octets.specs.Basics.{pick, and, Row, row, first}
use Rattle.octets.specs.Refusals.{number_of}
use Rattle.octets.specs.declared.refusals.Refusal.{Refusal}
use Rattle.words.specs.Fields.{read, write}
use Rattle.words.specs.declared.Place.{Place}
use Rattle.frames.specs.Edition.{replay_place, count_in}
use Rattle.frames.specs.Link.{zone_at, around, trailer_row, primary, zone_head, header_rows, written_rows, headers}
use Rattle.frames.specs.declared.Link.{Link}
use Rattle.frames.specs.declared.Heading as read

-- the link; the octets of the zone; the bits of the pointer, which has the spare bits of the zone's header above it; and the pointers
-- that are not used, from the first beyond the zone to the last
pub record Shape : Type 0 where
  pub link : Link
  pub size : ℕ
  pub width : ℕ
  pub beyond : ℕ
  pub last : ℕ

-- the octets of a frame are its zone's and those around it
abbrev pub shape_length : Shape → ℕ
shape_length h = h.size + around h.link

-- the zone begins behind the headers, and has so many octets
abbrev pub shape_zone : Shape → List ℕ → List ℕ
shape_zone h f = take h.size (drop (zone_at h.link) f)

-- the fields of the zone's header, two octets: the pointer is the lowest bits, and all above it are spare
abbrev pub pointer_at : ℕ → Place
pointer_at width = record { below = 0; width = width }

abbrev pub spare_above : ℕ → Place
spare_above width = record { below = width; width = 16 - width }

-- a pointer that is not used
abbrev pub shape_unused : Shape → ℕ → Bool
shape_unused h p = and (nat_le h.beyond p) (nat_le p h.last)

-- what the rows after the trailer's say, by the numbers of both headers
abbrev pub both_rows : Shape → ℕ → ℕ → List Row
both_rows h head zone =
    header_rows h.link head (read (spare_above h.width) zone) (shape_unused h (read (pointer_at h.width) zone))

-- what a frame to be read is refused for before its headers are looked at: its length, and then its trailer
abbrev pub outer_rows : Shape → List ℕ → List Row
outer_rows h f = row 3 (not (length f == shape_length h)) ∷ trailer_row h.link f ∷ []

-- all that it is refused for, in order
abbrev pub shape_rows : Shape → List ℕ → List Row
shape_rows h f = outer_rows h f ++ both_rows h (primary h.link f) (zone_head h.link f)

-- the same of a header that is read, with the settings before all else
abbrev pub shape_heading_rows : Bool → Shape → List ℕ → List Row
shape_heading_rows settled h f = row 1 (not settled) ∷ shape_rows h f

-- what reading a header answers: the refusal, or 0, and what the header says, all 0 on a refusal
pub record Heading : Type 0 where
  pub refusal : ℕ
  pub count : ℕ
  pub replay : ℕ
  pub pointer : ℕ

-- a refusal alone
abbrev pub no_heading : ℕ → Heading
no_heading refusal = record { refusal = refusal; count = 0; replay = 0; pointer = 0 }

-- an answer in numbers
abbrev pub tells : Result read.Heading Refusal → Heading
tells (Err refusal) = no_heading (number_of refusal)
tells (Ok h) = record { refusal = 0; count = h.count; replay = h.replay; pointer = h.pointer }

-- what a header says, where it is not refused; else the refusal alone
unfoldable pub heading_of : ℕ → ℕ → ℕ → ℕ → Heading
heading_of refusal c r p =
    pick (refusal == 0)
    (record { refusal = 0; count = c; replay = r; pointer = p })
    (no_heading refusal)

-- the same by the numbers of both headers
abbrev pub heading_by : Shape → ℕ → ℕ → ℕ → Heading
heading_by h refusal head zone =
    heading_of refusal (count_in h.link.edition head) (read replay_place head) (read (pointer_at h.width) zone)

-- what the header of a frame says, where none of these rows refuses it
abbrev pub shape_heading : Shape → List Row → List ℕ → Heading
shape_heading h rows f = heading_by h (first rows) (primary h.link f) (zone_head h.link f)

-- the zone's header with a pointer
abbrev pub word_of : ℕ → ℕ → ℕ
word_of width p = write (pointer_at width) p 0

-- both headers of the frame with this count and pointer, as they are written: the replay flag is 0
abbrev pub shape_head : Shape → ℕ → ℕ → List ℕ
shape_head h c p = headers h.link c 0 (word_of h.width p)

-- what a header to be written is refused for, with its settings and its count: a pointer that does not fit, or that reading refuses
abbrev pub shape_head_rows : Bool → Shape → ℕ → ℕ → List ℕ → List Row
shape_head_rows settled h c p buffer =
    written_rows h.link settled c (and (nat_lt p (2 ^ h.width)) (not (shape_unused h p))) buffer
