-- Unwrapping an encapsulation packet.
use Rattle.std.specs.Prelude.{ℕ, ◌-◌, List, [], ◌∷◌, Bool, true, false, Result, Ok, Err, not, length, get_or, leb, eqb}
use Rattle.octets.specs.Basics.{pick, and, or, number_at, part_of, Row, row, first}
use Rattle.octets.specs.Refusals.{number_of}
use Rattle.words.specs.Fields.{field}
use Rattle.packets.specs.Packet.{limit_in_range, well_formed, carried, packet_version, protocol_of, length_of_length, header_length}
use Rattle.packets.specs.Damage.{damage_or_0}
use Rattle.packets.specs.declared.damage.Refused.{Refused}
use Rattle.packets.specs.declared.unwrapping.Unit.{Unit}

-- the length-of-length of a packet's header
abbrev pub its_length_of_length : List ℕ → ℕ
its_length_of_length p = length_of_length (get_or p 0 0)

-- the extension and the reserved field of a header, 0 where it has none
unfoldable pub extension_of : List ℕ → ℕ
extension_of p = pick (leb 2 (its_length_of_length p)) (field (get_or p 1 0) 0 4) 0

unfoldable pub reserved_of : List ℕ → ℕ
reserved_of p = pick (leb 3 (its_length_of_length p)) (number_at 2 2 p) 0

-- the refusals: a space packet is refused by 8, an extension without protocol 6 and reserved bits by 6
unfoldable pub unwrap_rows : ℕ → List ℕ → List Row
unwrap_rows limit p =
    row 1 (not (limit_in_range limit))
    ∷ row 8 (or (not (well_formed limit p)) (eqb (packet_version (get_or p 0 0)) 0))
    ∷ row 6 (or (and (not (eqb (extension_of p) 0)) (not (eqb (protocol_of (get_or p 0 0)) 6))) (not (eqb (reserved_of p) 0)))
    ∷ []

-- what is answered: whether the call is accepted; the refusal, or 0; what is wrong with the header of a packet refused by 8, or 0; and the
-- protocol, the extension, where the unit starts and how long it is, all 0 on a refusal
pub record Unwrapping : Type 0 where
  pub accepted : Bool
  pub refusal : ℕ
  pub damage : ℕ
  pub protocol : ℕ
  pub extension : ℕ
  pub start : ℕ
  pub size : ℕ

-- the rule
unfoldable pub unwrapping : ℕ → List ℕ → Unwrapping
unwrapping limit p =
    let refusal : ℕ = first (unwrap_rows limit p) in
    let start : ℕ = header_length (its_length_of_length p) in
    pick (eqb refusal 0)
    (record { accepted = true; refusal = 0; damage = 0; protocol = protocol_of (get_or p 0 0); extension = extension_of p; start = start; size = length p - start })
    (record { accepted = false; refusal = refusal; damage = carried refusal limit p; protocol = 0; extension = 0; start = 0; size = 0 })

-- an answer in numbers
unfoldable pub unwraps : Result Unit Refused → Unwrapping
unwraps (Err r) = record { accepted = false; refusal = number_of r.refusal; damage = damage_or_0 r.damage; protocol = 0; extension = 0; start = 0; size = 0 }
unwraps (Ok u) = record { accepted = true; refusal = 0; damage = 0; protocol = u.protocol; extension = u.extension; start = u.start; size = u.size }

-- the part of a packet that an answer speaks of, empty on a refusal
unfoldable pub unit_part : List ℕ → Result Unit Refused → List ℕ
unit_part p (Err r) = []
unit_part p (Ok u) = part_of p u.start u.size
