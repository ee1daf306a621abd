-- What the header reader tells of space packets and encapsulation packets: every field at its place, the kinds, idle ones, and damage.
use Rattle.std.specs.Prelude.{ℕ, ◌≡◌, List, [], ◌∷◌, map, Bool, true, false, length, take, replicate}
use Rattle.octets.specs.Basics.{first}
use Rattle.packets.specs.Packet.{header_length, look, is_idle, well_formed}
use Rattle.packets.specs.Packet as packet
use Rattle.packets.specs.Header.{Reading, reading}
use Rattle.wrapping.specs.Idle.{idle_packet, idle_packet_rows}

-- a whole header: version, APID or protocol, whether it is idle, its length and the packet's
abbrev pub whole : ℕ → ℕ → Bool → ℕ → ℕ → Reading
whole version key idle size total = record { refusal = 0; outcome = 3; version = version; key = key; idle = idle; size = size; total = total; damage = 0 }

-- a space packet and an encapsulation packet that are not idle; more octets are needed; damaged, and how
abbrev pub space : ℕ → ℕ → Reading
space apid total = whole 0 apid false 6 total

abbrev pub encap : ℕ → ℕ → ℕ → Reading
encap protocol size total = whole 7 protocol false size total

abbrev pub bare : ℕ → ℕ → Reading
bare outcome damage = record { refusal = 0; outcome = outcome; version = 0; key = 0; idle = false; size = 0; total = 0; damage = damage }

abbrev pub more : Reading
more = bare 1 0

abbrev pub damaged : ℕ → Reading
damaged damage = bare 2 damage

-- at the greatest M
abbrev pub read : List ℕ → Reading
read os = reading 65542 os

pub record SpacePackets : Type 0 where
  -- the APID, and 2,047, which alone is idle; the length field, and 7 more
  pub apids : map read ((0x00 ∷ 0x01 ∷ replicate 4 0) ∷ (0x04 ∷ 0x00 ∷ replicate 4 0) ∷ (0x07 ∷ 0xFE ∷ replicate 4 0) ∷ (0x07 ∷ 0xFF ∷ replicate 4 0) ∷ [])
      ≡ space 1 7 ∷ space 1024 7 ∷ space 2046 7 ∷ whole 0 2047 true 6 7 ∷ []
  pub lengths : map read ((0 ∷ 0 ∷ 0 ∷ 0 ∷ 0x00 ∷ 0x01 ∷ []) ∷ (0 ∷ 0 ∷ 0 ∷ 0 ∷ 0x80 ∷ 0x00 ∷ []) ∷ (0 ∷ 0 ∷ 0 ∷ 0 ∷ 0xFF ∷ 0xFF ∷ []) ∷ [])
      ≡ space 0 8 ∷ space 0 32775 ∷ space 0 65542 ∷ []
  -- type, secondary header, sequence flags and sequence count do not count
  pub others : map read ((0x10 ∷ replicate 5 0) ∷ (0x08 ∷ replicate 5 0) ∷ (0 ∷ 0 ∷ 0xC0 ∷ replicate 3 0) ∷ (0 ∷ 0 ∷ 0x3F ∷ 0xFF ∷ 0 ∷ 0 ∷ []) ∷ []) ≡ replicate 4 (space 0 7)
  -- five octets of the header are not enough; the total is at most M
  pub unfinished : read (replicate 5 0) ≡ more
  pub limits : map (λ limit. reading limit (0 ∷ 0 ∷ 0 ∷ 0 ∷ 0x00 ∷ 0x01 ∷ [])) (7 ∷ 8 ∷ []) ≡ damaged 4 ∷ space 0 8 ∷ []
  pub pass_12 : reading 65541 (0 ∷ 0 ∷ 0 ∷ 0 ∷ 0xFF ∷ 0xFF ∷ []) ≡ damaged 4

pub record EncapsulationPackets : Type 0 where
  -- the protocol, and 0, which alone is idle; a header of one octet has no other
  pub protocols : map (λ o. read (o ∷ 0x02 ∷ [])) (0xE1 ∷ 0xE5 ∷ 0xF1 ∷ 0xFD ∷ []) ≡ whole 7 0 true 2 2 ∷ encap 1 2 2 ∷ encap 4 2 2 ∷ encap 7 2 2 ∷ []
  pub one_octet : map (λ o. read (o ∷ [])) (0xE0 ∷ 0xE4 ∷ 0xF0 ∷ 0xFC ∷ []) ≡ whole 7 0 true 1 1 ∷ damaged 2 ∷ damaged 2 ∷ damaged 2 ∷ []
  -- the length in one octet, two and four; the greatest totals, and the highest bit of the longest, which passes every M
  pub lengths : map read
      ((0xE5 ∷ 0xFF ∷ []) ∷ (0xE6 ∷ 0 ∷ 0x01 ∷ 0x00 ∷ []) ∷ (0xE6 ∷ 0 ∷ 0xFF ∷ 0xFF ∷ []) ∷ (0xE7 ∷ 0 ∷ 0 ∷ 0 ∷ 0 ∷ 0 ∷ 0x01 ∷ 0x00 ∷ []) ∷ (0xE7 ∷ 0 ∷ 0 ∷ 0 ∷ 0 ∷ 1 ∷ 0x00 ∷ 0x06 ∷ []) ∷ (0xE7 ∷ 0 ∷ 0 ∷ 0 ∷ 0x80 ∷ 0 ∷ 0 ∷ 8 ∷ []) ∷ [])
      ≡ encap 1 2 255 ∷ encap 1 4 256 ∷ encap 1 4 65535 ∷ encap 1 8 256 ∷ encap 1 8 65542 ∷ damaged 4 ∷ []
  pub past_the_limit : read (0xE7 ∷ 0 ∷ 0 ∷ 0 ∷ 0 ∷ 1 ∷ 0x00 ∷ 0x07 ∷ []) ≡ damaged 4
  -- user, extension and reserved bits do not count
  pub others : map read ((0xE6 ∷ 0xF0 ∷ 0 ∷ 4 ∷ []) ∷ (0xE6 ∷ 0x0F ∷ 0 ∷ 4 ∷ []) ∷ (0xE7 ∷ 0xFF ∷ 0 ∷ 0 ∷ 0 ∷ 0 ∷ 0 ∷ 8 ∷ []) ∷ (0xE7 ∷ 0 ∷ 0xFF ∷ 0xFF ∷ 0 ∷ 0 ∷ 0 ∷ 8 ∷ []) ∷ [])
      ≡ encap 1 4 4 ∷ encap 1 4 4 ∷ encap 1 8 8 ∷ encap 1 8 8 ∷ []
  -- a length is at least its header's
  pub below : map read ((0xE5 ∷ 1 ∷ []) ∷ (0xE6 ∷ 0 ∷ 0 ∷ 3 ∷ []) ∷ (0xE7 ∷ 0 ∷ 0 ∷ 0 ∷ 0 ∷ 0 ∷ 0 ∷ 7 ∷ []) ∷ []) ≡ replicate 3 (damaged 3)
  pub unfinished : map read ([] ∷ (0xE5 ∷ []) ∷ (0xE6 ∷ 0 ∷ 0 ∷ []) ∷ (0xE7 ∷ 0 ∷ 0 ∷ 0 ∷ 0 ∷ 0 ∷ 0 ∷ []) ∷ []) ≡ replicate 4 more
  pub limits : map (λ limit. reading limit (0xE5 ∷ 12 ∷ [])) (11 ∷ 12 ∷ []) ≡ damaged 4 ∷ encap 1 2 12 ∷ []
  -- versions 001 to 110 are damage as soon as the first octet is seen
  pub versions : map (λ o. read (o ∷ [])) (0x20 ∷ 0x40 ∷ 0x60 ∷ 0x80 ∷ 0xA0 ∷ 0xC0 ∷ []) ≡ replicate 6 (damaged 1)
  -- a lent packet has exactly its stated length
  pub stated : map (well_formed 12) ((0xE5 ∷ 3 ∷ []) ∷ (0xE5 ∷ 3 ∷ 0 ∷ []) ∷ (0xE5 ∷ 3 ∷ 0 ∷ 0 ∷ []) ∷ (0xE5 ∷ 2 ∷ []) ∷ []) ≡ false ∷ true ∷ false ∷ true ∷ []

-- the header reader's parts, each by itself: a header's length, the length that is stated, and whether a packet is idle
pub record Parts : Type 0 where
  pub headers : map header_length (0 ∷ 1 ∷ 2 ∷ 3 ∷ []) ≡ 1 ∷ 2 ∷ 4 ∷ 8 ∷ []
  pub unfinished : map (look 12) ([] ∷ replicate 5 0 ∷ (0xE5 ∷ []) ∷ (0xE6 ∷ 0 ∷ 0 ∷ []) ∷ (0xE7 ∷ replicate 6 0) ∷ []) ≡ replicate 5 packet.more
  pub totals : map (look 12) ((0 ∷ 0 ∷ 0 ∷ 0 ∷ 0 ∷ 5 ∷ []) ∷ (0xE0 ∷ []) ∷ (0xE5 ∷ 12 ∷ []) ∷ (0xE6 ∷ 0 ∷ 0 ∷ 4 ∷ []) ∷ (0xE7 ∷ 0 ∷ 0 ∷ 0 ∷ 0 ∷ 0 ∷ 0 ∷ 8 ∷ []) ∷ [])
      ≡ packet.whole 12 ∷ packet.whole 1 ∷ packet.whole 12 ∷ packet.whole 4 ∷ packet.whole 8 ∷ []
  pub damaged : map (look 12) ((0 ∷ 0 ∷ 0 ∷ 0 ∷ 0 ∷ 6 ∷ []) ∷ (0xE4 ∷ []) ∷ (0xE5 ∷ 13 ∷ []) ∷ (0xE5 ∷ 1 ∷ []) ∷ (0x20 ∷ []) ∷ (0xC0 ∷ []) ∷ [])
      ≡ map packet.damaged (4 ∷ 2 ∷ 4 ∷ 3 ∷ 1 ∷ 1 ∷ [])
  -- APID 2,047 and protocol 0
  pub idle : map is_idle ((0x07 ∷ 0xFF ∷ []) ∷ (0x1F ∷ 0xFF ∷ []) ∷ (0xE0 ∷ []) ∷ (0xE3 ∷ []) ∷ []) ≡ replicate 4 true
  pub not_idle : map is_idle ((0x07 ∷ 0xFE ∷ []) ∷ (0x00 ∷ 0x00 ∷ []) ∷ (0xE5 ∷ []) ∷ (0xFD ∷ []) ∷ []) ≡ replicate 4 false

-- an idle packet of r octets, and what writing it is refused for
pub record IdlePackets : Type 0 where
  -- from 256 octets on its header has four, whatever its length
  pub longest : map (λ r. take 5 (idle_packet 0x55 r)) (257 ∷ 2045 ∷ 65535 ∷ [])
      ≡ (0xE2 ∷ 0x00 ∷ 0x01 ∷ 0x01 ∷ 0x55 ∷ []) ∷ (0xE2 ∷ 0x00 ∷ 0x07 ∷ 0xFD ∷ 0x55 ∷ []) ∷ (0xE2 ∷ 0x00 ∷ 0xFF ∷ 0xFF ∷ 0x55 ∷ []) ∷ []
  pub its_length : map (λ r. length (idle_packet 0x55 r)) (1 ∷ 2 ∷ 3 ∷ 257 ∷ 2045 ∷ 65535 ∷ []) ≡ 1 ∷ 2 ∷ 3 ∷ 257 ∷ 2045 ∷ 65535 ∷ []
  -- a length that no idle packet has, no room, and the first of the two
  pub lengths : map (λ r. first (idle_packet_rows r 65536)) (0 ∷ 1 ∷ 65535 ∷ 65536 ∷ []) ≡ 1 ∷ 0 ∷ 0 ∷ 1 ∷ []
  pub rooms : map (λ room. first (idle_packet_rows 3 room)) (0 ∷ 2 ∷ 3 ∷ []) ≡ 2 ∷ 2 ∷ 0 ∷ []
  pub order : first (idle_packet_rows 65536 3) ≡ 1
