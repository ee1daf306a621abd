-- A space packet's header, read field by field and by the one header reader, says the same.
use Rattle.std.specs.Prelude.{ℕ, ◌+◌, ◌≡◌, List, true, ltb, eqb}
use Rattle.octets.specs.Basics.{AllOctets, pick, first}
use Rattle.packets.specs.Packet.{limit_in_range}
use Rattle.packets.specs.Header.{Reading, bare, reading}
use Rattle.space.specs.Space.{space_read_rows, space_reading}
use Rattle.space.specs.declared.SpaceHeader.{SpaceHeader}

-- what the header reader is to answer of a packet with such a header: damaged by 4 where the total, field + 7, is above the limit, else whole
unfoldable pub as_packet : ℕ → SpaceHeader → Reading
as_packet limit h =
    let total : ℕ = h.length + 7 in
    pick (ltb limit total) (bare 0 2 4)
    (record { refusal = 0; outcome = 3; version = 0; key = h.apid; idle = eqb h.apid 2047; size = 6; total = total; damage = 0 })

-- octets that are read as a space packet's header, at any limit in range; and those in which the header reader finds a space packet are so read
pub record SameHeader : Type 0 where
  pub told : (limit : ℕ) (os : List ℕ) → AllOctets os → limit_in_range limit ≡ true → first (space_read_rows os) ≡ 0
      → reading limit os ≡ as_packet limit (space_reading os).header
  pub read : (limit : ℕ) (os : List ℕ) → AllOctets os → (reading limit os).outcome ≡ 3 → (reading limit os).version ≡ 0 → first (space_read_rows os) ≡ 0
