-- The bitstream channel's written rules: n bits written into a frame, and the bits of a frame read.
use Rattle.std.specs.Prelude.{ℕ, ◌+◌, ◌-◌, ◌/◌, ◌%◌, ◌^◌, ◌≤◌, List, [], ◌∷◌, ◌++◌, Bool, true, false, Result, Ok, Err, not, length, take, get_or, replicate, leb, ltb, eqb}
use Rattle.octets.specs.Basics.{pick, and, or, over, Row, row, first}
use Rattle.octets.specs.Refusals.{number_of}
use Rattle.octets.specs.declared.refusals.Refusal.{Refusal}
use Rattle.words.specs.Fields.{read, write}
use Rattle.words.specs.declared.Place.{Place}
use Rattle.trailer.specs.Trailer.{sent}
use Rattle.frames.specs.Link.{count_width, next_count}
use Rattle.frames.specs.BitFrame.{bits_in_range, bit_frame_length, bit_frame_rows, bit_zone_of, bit_count, bit_replay, bit_pointer, bit_head, most_bits, fill_only, all_valid}
use Rattle.frames.specs.declared.bits.BitSettings.{BitSettings}
use Rattle.bitstream.specs.declared.Writer.{Writer}
use Rattle.bitstream.specs.declared.Reader.{Reader}
use Rattle.bitstream.specs.declared.Reader.TheVariants.{Fresh, Last}
use Rattle.bitstream.specs.declared.Reading as said

-- ---- bits in octets, the first in the top of the first

-- the octets that hold n bits
unfoldable pub octets_for : ℕ → ℕ
octets_for n = (n + 7) / 8

-- the place of the bit that has i before it in its octet
abbrev pub bit_place : ℕ → Place
bit_place i = record { below = 7 - i; width = 1 }

-- the bit that has i before it
unfoldable pub bit_at : List ℕ → ℕ → ℕ
bit_at os i = read (bit_place (i % 8)) (get_or os (i / 8) 0)

-- ---- the zone

-- the pointer of a zone with n bits
unfoldable pub pointer_for : BitSettings → ℕ → ℕ
pointer_for s n = pick (eqb n 0) fill_only (pick (eqb n (most_bits s)) all_valid (n - 1))

-- how many bits a pointer says are valid
unfoldable pub valid_bits : BitSettings → ℕ → ℕ
valid_bits s p = pick (eqb p fill_only) 0 (pick (eqb p all_valid) (most_bits s) (p + 1))

-- an octet whose first k bits are those of `bits`, and whose others are those of `fill` at the same places
unfoldable pub mixed : ℕ → ℕ → ℕ → ℕ
mixed k bits fill = write (record { below = 0; width = 8 - k }) fill bits

-- the octet that n bits end in, where they do not end with a whole one
unfoldable pub last_octet : BitSettings → ℕ → List ℕ → List ℕ
last_octet s n bits = pick (eqb (n % 8) 0) [] (mixed (n % 8) (get_or bits (n / 8) 0) s.fill ∷ [])

-- n bits, and fill to the zone's end
unfoldable pub zone_with : BitSettings → ℕ → List ℕ → List ℕ
zone_with s n bits = take (n / 8) bits ++ (last_octet s n bits ++ replicate (s.width - octets_for n) s.fill)

-- ---- writing

-- the first count is 0
abbrev pub begun : Writer
begun = record { count = 0 }

-- the records that calls reach: those whose count is on the wheel
unfoldable pub writer_reachable : BitSettings → Writer → Bool
writer_reachable s w = ltb w.count (2 ^ count_width s.link)

-- what n bits to be written are refused for, from a buffer of `lent` octets into one of `room`
unfoldable pub write_rows : BitSettings → Writer → ℕ → ℕ → ℕ → List Row
write_rows s w n lent room =
    row 1 (not (and (bits_in_range s) (leb n (most_bits s))))
    ∷ row 2 (or (ltb room (bit_frame_length s)) (ltb lent (octets_for n)))
    ∷ row 10 (not (writer_reachable s w))
    ∷ []

-- the frame with this count and n bits
unfoldable pub frame_with : BitSettings → ℕ → ℕ → List ℕ → List ℕ
frame_with s c n bits = sent s.link.trailed (bit_head s c (pointer_for s n) ++ zone_with s n bits)

-- the refusal, 0 for none, and the writer after the call
pub record Written : Type 0 where
  pub refusal : ℕ
  pub writer : Writer

-- a refusal alone, with the record as it was
abbrev pub no_writing : ℕ → Writer → Written
no_writing r w = record { refusal = r; writer = w }

-- what an answer to the writer w says
abbrev pub writes : Writer → Result Writer Refusal → Written
writes w (Err r) = no_writing (number_of r) w
writes w (Ok next) = record { refusal = 0; writer = next }

-- an answer, with the octets of the frame's buffer after the call
pub record Wrote : Type 0 where
  pub said : Written
  pub frame : List ℕ

abbrev pub wrote : Written → List ℕ → Wrote
wrote r frame = record { said = r; frame = frame }

-- what a call answers and leaves: a refusal leaves all as it was
unfoldable pub written : BitSettings → Writer → List ℕ → ℕ → List ℕ → Wrote
written s w bits n frame =
    let r : ℕ = first (write_rows s w n (length bits) (length frame)) in
    pick (eqb r 0)
    (wrote (record { refusal = 0; writer = record { count = next_count (count_width s.link) w.count } })
    (over frame 0 (frame_with s w.count n bits)))
    (wrote (no_writing r w) frame)

-- ---- reading

-- the same of a reader: there is no last count, or one that is on the wheel, and with it a loss may wait or not
unfoldable pub reader_reachable : BitSettings → Reader → Bool
reader_reachable s Fresh = true
reader_reachable s (Last c waiting) = ltb c (2 ^ count_width s.link)

-- what a frame to be read is refused for
unfoldable pub read_rows : BitSettings → Reader → List ℕ → List Row
read_rows s x f = row 1 (not (bits_in_range s)) ∷ row 10 (not (reader_reachable s x)) ∷ bit_frame_rows s f

-- whether a loss is to be told: there is a last count and this frame's does not follow it, or one waits
unfoldable pub untold : BitSettings → Reader → ℕ → Bool
untold s Fresh c = false
untold s (Last last waiting) c = or (not (eqb c (next_count (count_width s.link) last))) waiting

-- the loss flag of a unit with n bits: fill alone has it clear
unfoldable pub loss_flag : BitSettings → Reader → ℕ → ℕ → Bool
loss_flag s x c n = and (untold s x c) (not (eqb n 0))

-- the record after that unit: without bits the loss waits on
unfoldable pub next_reader : BitSettings → Reader → ℕ → ℕ → Reader
next_reader s x c n = Last c (and (untold s x c) (eqb n 0))

-- what a frame says, or the number that it is refused for, with all else 0; and the reader after the call
pub record Reading : Type 0 where
  pub refusal : ℕ
  pub count : ℕ
  pub replay : ℕ
  pub bits : ℕ
  pub lost : Bool
  pub reader : Reader

-- a refusal alone, with the record as it was
abbrev pub no_reading : ℕ → Reader → Reading
no_reading r x = record { refusal = r; count = 0; replay = 0; bits = 0; lost = false; reader = x }

-- what an answer to the reader x says
abbrev pub reads : Reader → Result said.Reading Refusal → Reading
reads x (Err r) = no_reading (number_of r) x
reads x (Ok a) = record { refusal = 0; count = a.count; replay = a.replay; bits = a.bits; lost = a.lost; reader = a.reader }

-- what a call answers: a refusal alone, or all that the frame says
unfoldable pub reading : BitSettings → Reader → List ℕ → Reading
reading s x f =
    let r : ℕ = first (read_rows s x f) in
    let c : ℕ = bit_count s f in
    let n : ℕ = valid_bits s (bit_pointer s f) in
    pick (eqb r 0)
    (record { refusal = 0; count = c; replay = bit_replay s f; bits = n; lost = loss_flag s x c n; reader = next_reader s x c n })
    (no_reading r x)

-- the zone's leading octets that hold n bits, as few as do; none where the frame has another length or the zone fewer bits
unfoldable pub leading_octets : BitSettings → ℕ → List ℕ → List ℕ
leading_octets s n f =
    pick (and (eqb (length f) (bit_frame_length s)) (leb n (most_bits s))) (take (octets_for n) (bit_zone_of s f)) []

-- what laying n bits goes by
pub record Fits (s : BitSettings) (n : ℕ) (bits frame : List ℕ) : Type 0 where
  pub inside : octets_for n ≤ s.width
  pub lent : octets_for n ≤ length bits
  pub room : bit_frame_length s ≤ length frame
