-- The frame's own header of six octets under header error control: octets 0, 1 and 5 are covered, octets 2 to 4 (the count) are not; the
-- check symbols stand in the two octets after it.
use Rattle.std.specs.Prelude.{ℕ, ◌+◌, ◌*◌, ◌/◌, ◌^◌, List, [], ◌++◌, Bool, eqb, take, drop}
use Rattle.octets.specs.Basics.{pick, number, octets, laid}
use Rattle.words.specs.Fields.{field, placed}
use Rattle.repair.specs.Code.{checks, Answer, reading}

-- octets 0, 1 and 5 as six symbols, high half first
unfoldable pub six_of : ℕ → ℕ
six_of head = field head 32 16 * 2 ^ 8 + field head 0 8

-- the number of the two octets that are written after a header
unfoldable pub header_checks : ℕ → ℕ
header_checks head = checks (six_of head)

-- the word of ten symbols: those six, and the two octets after the header
unfoldable pub covered : ℕ → ℕ → ℕ
covered head after = six_of head * 16 ^ 4 + after

-- the header with these six symbols for its own
unfoldable pub with_six : ℕ → ℕ → ℕ
with_six head six = placed (placed head 0 8 six) 32 16 (six / 2 ^ 8)

-- what is made of a header by the word that it is read as
unfoldable pub header_of : ℕ → Answer → Answer
header_of head r =
    pick (eqb r.refusal 0) (record { refusal = 0; read = with_six head (r.read / 16 ^ 4) }) (record { refusal = r.refusal; read = 0 })

-- how a header is read, with the number of the two octets after it
unfoldable pub header_reading : ℕ → ℕ → Answer
header_reading head after = header_of head (reading (covered head after))

-- ---- as a setting: all of it where it is on, and nothing where it is off

-- the octets of a frame's own header
unfoldable pub own_octets : Bool → ℕ
own_octets on = pick on 8 6

-- a header as it is written
unfoldable pub own_written : Bool → ℕ → List ℕ
own_written on head = octets 6 head ++ pick on (octets 2 (header_checks head)) []

-- a buffer that begins with a header's six octets, with what is written after them
unfoldable pub checked : Bool → List ℕ → ℕ → List ℕ
checked on buffer head = pick on (laid buffer 6 (octets 2 (header_checks head))) buffer

-- how a header is read: repaired or refused, or as it stands
unfoldable pub own_reading : Bool → ℕ → ℕ → Answer
own_reading on head after = pick on (header_reading head after) (record { refusal = 0; read = head })

-- how that of a frame is
unfoldable pub own_header : Bool → List ℕ → Answer
own_header on f = own_reading on (number (take 6 f)) (number (take 2 (drop 6 f)))
