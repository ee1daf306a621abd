-- The idle packet that fills the rest of a zone.
use Rattle.std.specs.Prelude.{ℕ, ◌-◌, List, [], ◌∷◌, ◌++◌, length, replicate, leb, ltb, eqb}
use Rattle.octets.specs.Basics.{pick, or, octets, Row, row}

-- its header, for r octets
unfoldable pub idle_header : ℕ → List ℕ
idle_header r = pick (eqb r 1) (0xE0 ∷ []) (pick (leb r 255) (0xE1 ∷ r ∷ []) (0xE2 ∷ 0 ∷ octets 2 r))

-- the header, and the fill octet up to r octets
unfoldable pub idle_packet : ℕ → ℕ → List ℕ
idle_packet fill r = idle_header r ++ replicate (r - length (idle_header r)) fill

-- the length-of-length that the header has
unfoldable pub idle_length_of_length : ℕ → ℕ
idle_length_of_length r = pick (eqb r 1) 0 (pick (leb r 255) 1 2)

-- the refusals, for r octets and the room there is: a length that no idle packet has, and lack of room
unfoldable pub idle_packet_rows : ℕ → ℕ → List Row
idle_packet_rows r room = row 1 (or (eqb r 0) (ltb 65535 r)) ∷ row 2 (ltb room r) ∷ []
