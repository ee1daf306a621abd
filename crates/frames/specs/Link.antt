-- What every frame of a link has: its own header, the wheel of its count, and the two octets before the zone.
-- Every reading takes the link, so that an edition or an optional field changes it here alone.
use Rattle.std.specs.Prelude.{ℕ, ◌+◌, ◌-◌, ◌%◌, ◌^◌, Bool, not, List, [], ◌∷◌, ◌++◌, length, take, drop, ◌==◌, nat_le, nat_lt}
use Rattle.octets.specs.Basics.{and, number, octets, Row, row}
use Rattle.words.specs.Fields.{read, write}
use Rattle.words.specs.declared.Place.{Place}
use Rattle.trailer.specs.Trailer.{extra, wrong}
use Rattle.frames.specs.Edition.{own_width, count_place, cycle_width, signals, signalling}
use Rattle.frames.specs.declared.Link.{Link}

-- spacecraft 0 to 255, channel 0 to 62
unfoldable pub link_in_range : Link → Bool
link_in_range l = and (nat_le l.spacecraft 255) (nat_le l.channel 62)

-- the fields of the frame's own header, six octets from the most significant bit; behind these the count and the signalling octet
abbrev pub version_place : Place
version_place = record { below = 46; width = 2 }

abbrev pub spacecraft_place : Place
spacecraft_place = record { below = 38; width = 8 }

abbrev pub channel_place : Place
channel_place = record { below = 32; width = 6 }

-- the zone begins after the frame's own header and the zone's
abbrev pub zone_at : Link → ℕ
zone_at l = 8

-- what a frame has around its zone: the headers before it and, where the channel has one, the trailer behind it
abbrev pub around : Link → ℕ
around l = zone_at l + extra l.trailed

-- the two headers as numbers
unfoldable pub primary : Link → List ℕ → ℕ
primary l f = number (take 6 f)

unfoldable pub zone_head : Link → List ℕ → ℕ
zone_head l f = number (take 2 (drop 6 f))

-- the trailer is not that of the octets before it
abbrev pub trailer_row : Link → List ℕ → Row
trailer_row l f = row 13 (wrong l.trailed f)

-- what the rows after the trailer's look at: the frame's own header, the zone's spare bits, and whether the pointer is one that is not used
unfoldable pub header_rows : Link → ℕ → ℕ → Bool → List Row
header_rows l head zone_spare unused =
    row 4 (not (read version_place head == 1))
    ∷ row 5 (not (and (read spacecraft_place head == l.spacecraft) (read channel_place head == l.channel)))
    ∷ row 6 (not (and (signals l.edition head) (zone_spare == 0)))
    ∷ row 7 unused
    ∷ []

-- the width of the count
unfoldable pub count_width : Link → ℕ
count_width l = own_width + cycle_width l.edition

-- what headers to be written are refused for: the settings, the count or the pointer; no room
unfoldable pub written_rows : Link → Bool → ℕ → Bool → List ℕ → List Row
written_rows l settled c pointed buffer =
    row 1 (not (and settled (and (nat_lt c (2 ^ count_width l)) pointed)))
    ∷ row 2 (nat_lt (length buffer) (zone_at l))
    ∷ []

-- the frame's own header with this count and replay flag, as a number
unfoldable pub head_word : Link → ℕ → ℕ → ℕ
head_word l c r =
    write version_place 1
    (write spacecraft_place l.spacecraft
    (write channel_place l.channel (write count_place c (signalling l.edition c r))))

-- both headers as they are written: the frame's own, and the zone's with this number
unfoldable pub headers : Link → ℕ → ℕ → ℕ → List ℕ
headers l c r z = octets 6 (head_word l c r) ++ octets 2 z

-- the wheel, over its width: the count after c, and how many frames are missing between `last` and c, for any two numbers
unfoldable pub next_count : ℕ → ℕ → ℕ
next_count width c = (c + 1) % 2 ^ width

unfoldable pub missing : ℕ → ℕ → ℕ → ℕ
missing width last c = (c + 2 ^ width - (last % 2 ^ width + 1)) % 2 ^ width
