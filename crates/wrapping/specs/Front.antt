-- The header of an encapsulation packet, as it is written.
use Rattle.std.specs.Prelude.{ℕ, ◌-◌, ◌/◌, List, [], ◌∷◌, ◌++◌, take}
use Rattle.octets.specs.Basics.{octets}
use Rattle.words.specs.Fields.{placed}
use Rattle.packets.specs.Packet.{header_length}

-- the first octet: version 111, the protocol and the length-of-length, which is `code` here and below
unfoldable pub first_octet : ℕ → ℕ → ℕ
first_octet protocol code = placed (placed (placed 0 5 3 7) 2 3 protocol) 0 2 code

-- the second octet of a header that has an extension: user 0, and the extension
unfoldable pub second_octet : ℕ → ℕ
second_octet extension = placed 0 0 4 extension

-- the first half of the longest header, user and reserved bits 0
abbrev pub opening : ℕ → ℕ → ℕ → List ℕ
opening protocol extension code = first_octet protocol code ∷ second_octet extension ∷ 0 ∷ 0 ∷ []

-- how many octets of a header are its length field, and how many stand before it
abbrev pub half : ℕ → ℕ
half code = header_length code / 2

abbrev pub start : ℕ → ℕ
start code = header_length code - half code

-- the header
unfoldable pub front : ℕ → ℕ → ℕ → ℕ → List ℕ
front protocol extension code total = take (start code) (opening protocol extension code) ++ octets (half code) total
