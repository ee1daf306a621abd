-- The header of a space packet in the numbers of the C interface.
use Rattle.std.specs.Prelude.{ℕ, ◌+◌, List, [], ◌∷◌, length, get_or, ltb}
use Rattle.octets.specs.Basics.{pick}
use Rattle.space.specs.Space.{SpaceReading, space_reading, SpaceWriting, space_writing}
use Rattle.space.specs.declared.SpaceHeader.{SpaceHeader}
use Rattle.arrays.specs.Arrays.{told}
use Rattle.exports.specs.Left.{Left, left}

-- ---- reading

-- the packet's length, 7 more than its length field; and the seven fields
unfoldable pub space_numbers : SpaceReading → List ℕ
space_numbers a =
    let h : SpaceHeader = a.header in
    pick a.accepted (h.length + 7) 0
    ∷ h.version
    ∷ h.packet_type
    ∷ h.secondary
    ∷ h.apid
    ∷ h.flags
    ∷ h.count
    ∷ h.length
    ∷ []

-- the octets are only read
unfoldable pub read_space_leaves : List ℕ → List ℕ → Left
read_space_leaves octets answer =
    let a : SpaceReading = space_reading octets in
    pick (ltb (length answer) 8) (left 2 [] [] answer) (left a.refusal [] [] (told answer (space_numbers a)))

-- ---- writing

-- version, type, secondary header, APID, sequence flags, sequence count and length field
unfoldable pub header_of : List ℕ → SpaceHeader
header_of ns = record {
  version = get_or ns 0 0;
  packet_type = get_or ns 1 0;
  secondary = get_or ns 2 0;
  apid = get_or ns 3 0;
  flags = get_or ns 4 0;
  count = get_or ns 5 0;
  length = get_or ns 6 0;
}

-- the six octets are written where nothing is refused
unfoldable pub write_space_leaves : List ℕ → List ℕ → Left
write_space_leaves header octets =
    let a : SpaceWriting = space_writing (header_of header) octets in
    pick (ltb (length header) 7) (left 2 [] octets []) (left a.refusal [] a.output [])
