-- The seven fields of a space packet's header, each alone at its place, read and written.
use Rattle.std.specs.Prelude.{ℕ, ◌≡◌, List, [], ◌∷◌, map, true, replicate}
use Rattle.space.specs.Space.{SpaceReading, space_reading, SpaceWriting, space_writing}
use Rattle.space.specs.declared.SpaceHeader.{SpaceHeader}
use Rattle.demands.specs.Numbers.Samples.{lent}

-- type, secondary header, APID, sequence flags, sequence count and length, of version 000
abbrev pub fields : ℕ → ℕ → ℕ → ℕ → ℕ → ℕ → SpaceHeader
fields kind secondary apid flags count length =
    record { version = 0; packet_type = kind; secondary = secondary; apid = apid; flags = flags; count = count; length = length }

-- no field set but the version
abbrev pub of_version : ℕ → SpaceHeader
of_version version = record { version = version; packet_type = 0; secondary = 0; apid = 0; flags = 0; count = 0; length = 0 }

-- a header and its six octets
pub record Header : Type 0 where
  pub header : SpaceHeader
  pub octets : List ℕ

abbrev pub is : SpaceHeader → List ℕ → Header
is h os = record { header = h; octets = os }

-- each field alone: its lowest bit, its highest and all ones
abbrev pub headers : List Header
headers =
    is (fields 0 0 0 0 0 0) (replicate 6 0)
    ∷ is (fields 1 0 0 0 0 0) (0x10 ∷ replicate 5 0)
    ∷ is (fields 0 1 0 0 0 0) (0x08 ∷ replicate 5 0)
    ∷ is (fields 0 0 1 0 0 0) (0x00 ∷ 0x01 ∷ replicate 4 0)
    ∷ is (fields 0 0 1024 0 0 0) (0x04 ∷ 0x00 ∷ replicate 4 0)
    ∷ is (fields 0 0 2047 0 0 0) (0x07 ∷ 0xFF ∷ replicate 4 0)
    ∷ is (fields 0 0 0 1 0 0) (0 ∷ 0 ∷ 0x40 ∷ replicate 3 0)
    ∷ is (fields 0 0 0 2 0 0) (0 ∷ 0 ∷ 0x80 ∷ replicate 3 0)
    ∷ is (fields 0 0 0 0 1 0) (0 ∷ 0 ∷ 0x00 ∷ 0x01 ∷ 0 ∷ 0 ∷ [])
    ∷ is (fields 0 0 0 0 8192 0) (0 ∷ 0 ∷ 0x20 ∷ 0x00 ∷ 0 ∷ 0 ∷ [])
    ∷ is (fields 0 0 0 0 16383 0) (0 ∷ 0 ∷ 0x3F ∷ 0xFF ∷ 0 ∷ 0 ∷ [])
    ∷ is (fields 0 0 0 0 0 1) (0 ∷ 0 ∷ 0 ∷ 0 ∷ 0x00 ∷ 0x01 ∷ [])
    ∷ is (fields 0 0 0 0 0 32768) (0 ∷ 0 ∷ 0 ∷ 0 ∷ 0x80 ∷ 0x00 ∷ [])
    ∷ is (fields 0 0 0 0 0 65535) (0 ∷ 0 ∷ 0 ∷ 0 ∷ 0xFF ∷ 0xFF ∷ [])
    ∷ []

abbrev pub reads : SpaceHeader → SpaceReading
reads h = record { accepted = true; refusal = 0; header = h }

abbrev pub writes : List ℕ → SpaceWriting
writes os = record { refusal = 0; output = os }

abbrev pub refuses : List ℕ → SpaceHeader → ℕ
refuses output h = (space_writing h output).refusal

pub record Headers : Type 0 where
  pub read : map (λ h. space_reading h.octets) headers ≡ map (λ h. reads h.header) headers
  pub written : map (λ h. space_writing h.header (lent 6)) headers ≡ map (λ h. writes h.octets) headers
  -- a field that does not fit, no room, both, and neither
  pub too_great : map (refuses (lent 6))
      (fields 2 0 0 0 0 0 ∷ fields 0 2 0 0 0 0 ∷ fields 0 0 2048 0 0 0 ∷ fields 0 0 0 4 0 0 ∷ fields 0 0 0 0 16384 0 ∷ fields 0 0 0 0 0 65536 ∷ [])
      ≡ replicate 6 1
  pub no_room : refuses (lent 5) (fields 0 0 0 0 0 0) ∷ refuses (lent 5) (fields 2 0 0 0 0 0) ∷ refuses (lent 6) (fields 1 1 2047 3 16383 65535) ∷ [] ≡ 2 ∷ 1 ∷ 0 ∷ []
  -- another version is not written, and neither it nor fewer than six octets are read
  pub versions : map (λ version. refuses (lent 6) (of_version version)) (0 ∷ 1 ∷ 4 ∷ 7 ∷ 8 ∷ []) ≡ 0 ∷ 1 ∷ 1 ∷ 1 ∷ 1 ∷ []
  pub not_read : map (λ os. (space_reading os).refusal) (replicate 5 0 ∷ (0x20 ∷ replicate 5 0) ∷ (0x80 ∷ replicate 5 0) ∷ (0xE0 ∷ replicate 5 0) ∷ []) ≡ 8 ∷ 8 ∷ 8 ∷ 8 ∷ []
