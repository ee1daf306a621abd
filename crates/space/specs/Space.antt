-- The primary header of a space packet: seven fields in six octets.
use Rattle.std.specs.Prelude.{ℕ, List, [], ◌∷◌, Bool, true, false, not, length, leb, ltb, eqb, Result, Ok, Err}
use Rattle.octets.specs.Basics.{pick, and, or, number_at, octets, over, Row, row, first}
use Rattle.octets.specs.declared.refusals.Refusal.{Refusal}
use Rattle.octets.specs.Refusals.{number_of, refusal_of}
use Rattle.words.specs.Fields.{read, write}
use Rattle.words.specs.declared.Place.{Place}
use Rattle.space.specs.declared.SpaceHeader.{SpaceHeader}

-- the fields' places in the header's 48 bits
abbrev pub version_at : Place
version_at = record { below = 45; width = 3 }

abbrev pub type_at : Place
type_at = record { below = 44; width = 1 }

abbrev pub secondary_at : Place
secondary_at = record { below = 43; width = 1 }

abbrev pub apid_at : Place
apid_at = record { below = 32; width = 11 }

abbrev pub flags_at : Place
flags_at = record { below = 30; width = 2 }

abbrev pub count_at : Place
count_at = record { below = 16; width = 14 }

abbrev pub length_at : Place
length_at = record { below = 0; width = 16 }

-- the header that a word holds
unfoldable pub space_fields : ℕ → SpaceHeader
space_fields word = record {
  version = read version_at word;
  packet_type = read type_at word;
  secondary = read secondary_at word;
  apid = read apid_at word;
  flags = read flags_at word;
  count = read count_at word;
  length = read length_at word;
}

-- the word that holds a header
unfoldable pub space_word : SpaceHeader → ℕ
space_word h =
    write length_at h.length
    (write count_at h.count
    (write flags_at h.flags
    (write apid_at h.apid
    (write secondary_at h.secondary
    (write type_at h.packet_type
    (write version_at h.version 0))))))

-- the version of a space packet, and each field within its width
unfoldable pub space_in_range : SpaceHeader → Bool
space_in_range h =
    and (eqb h.version 0)
    (and (leb h.packet_type 1)
    (and (leb h.secondary 1)
    (and (leb h.apid 2047)
    (and (leb h.flags 3)
    (and (leb h.count 16383) (leb h.length 65535))))))

-- ---- reading

-- the refusal: fewer than six octets, or another version
unfoldable pub space_read_rows : List ℕ → List Row
space_read_rows os = row 8 (or (ltb (length os) 6) (not (eqb (read version_at (number_at 6 0 os)) 0))) ∷ []

-- what is answered: whether the call is accepted; the refusal, or 0; and the header, all 0 on a refusal
pub record SpaceReading : Type 0 where
  pub accepted : Bool
  pub refusal : ℕ
  pub header : SpaceHeader

-- a header of which nothing is told
abbrev no_header : SpaceHeader
no_header = record { version = 0; packet_type = 0; secondary = 0; apid = 0; flags = 0; count = 0; length = 0 }

-- a call that is refused by n tells of no header
abbrev pub space_refused : ℕ → SpaceReading
space_refused n = record { accepted = false; refusal = n; header = no_header }

-- the rule
unfoldable pub space_reading : List ℕ → SpaceReading
space_reading os =
    let refusal : ℕ = first (space_read_rows os) in
    pick (eqb refusal 0) (record { accepted = true; refusal = 0; header = space_fields (number_at 6 0 os) }) (space_refused refusal)

-- an answer in numbers
unfoldable pub space_reads : Result SpaceHeader Refusal → SpaceReading
space_reads (Err refusal) = space_refused (number_of refusal)
space_reads (Ok header) = record { accepted = true; refusal = 0; header = header }

-- ---- writing

-- the refusals: a field out of range or another version, and lack of room
unfoldable pub space_rows : SpaceHeader → ℕ → List Row
space_rows h room = row 1 (not (space_in_range h)) ∷ row 2 (ltb room 6) ∷ []

-- what comes of a call: the refusal, or 0, and the lent output
pub record SpaceWriting : Type 0 where
  pub refusal : ℕ
  pub output : List ℕ

-- the rule: a refused call writes nothing
unfoldable pub space_writing : SpaceHeader → List ℕ → SpaceWriting
space_writing h output =
    let refusal : ℕ = first (space_rows h (length output)) in
    record {
      refusal = refusal;
      output = pick (eqb refusal 0) (over output 0 (octets 6 (space_word h))) output;
    }

-- an answer, and the output as it is left
unfoldable pub space_writes : Result (Unit {0}) Refusal → List ℕ → SpaceWriting
space_writes answer output = record { refusal = refusal_of answer; output = output }
