-- The bitstream channel in the numbers of the C interface.
use Rattle.std.specs.Prelude.{ℕ, List, [], ◌∷◌, Bool, false, length, get_or, leb, ltb, eqb}
use Rattle.octets.specs.Basics.{pick, and, or}
use Rattle.frames.specs.Link.{zone_at}
use Rattle.frames.specs.declared.bits.BitSettings.{BitSettings}
use Rattle.bitstream.specs.Bitstream.{Wrote, written, Reading, reading, leading_octets}
use Rattle.bitstream.specs.declared.Writer.{Writer}
use Rattle.bitstream.specs.declared.Reader.{Reader}
use Rattle.bitstream.specs.declared.Reader.TheVariants.{Fresh, Last}
use Rattle.arrays.specs.Arrays.{told, kept, bit, octet_of, count_of}
use Rattle.exports.specs.Left.{Left, left}
use Rattle.exports.specs.Channel.{link_of, zone_for}

-- so many numbers state the settings
abbrev pub bit_settings_numbers : ℕ
bit_settings_numbers = 6

-- whether an array is short: of settings, or of a record's or an answer's numbers
unfoldable pub bits_short : ℕ → ℕ → ℕ → ℕ → ℕ → Bool
bits_short settings numbers size answer room = or (ltb settings bit_settings_numbers) (or (ltb numbers size) (ltb answer room))

-- spacecraft, channel, W, the fill octet, the trailer and the edition
unfoldable pub bit_settings_of : List ℕ → BitSettings
bit_settings_of ns = record {
  link = link_of ns (get_or ns 4 0) (get_or ns 5 0);
  width = zone_for (get_or ns 2 0) (get_or ns 3 0) (get_or ns 4 0) (get_or ns 5 0);
  fill = octet_of (get_or ns 3 0);
}

-- ---- writing

-- the record is the count of the next frame
unfoldable pub writer_of : List ℕ → Writer
writer_of ns = record { count = count_of (get_or ns 0 0) }

unfoldable pub write_leaves : List ℕ → List ℕ → List ℕ → ℕ → List ℕ → Left
write_leaves settings numbers bits n frame =
    let a : Wrote = written (bit_settings_of settings) (writer_of numbers) bits n frame in
    let refusal : ℕ = a.said.refusal in
    pick (bits_short (length settings) (length numbers) 1 0 0)
    (left 2 numbers frame [])
    (left refusal (kept refusal numbers (a.said.writer.count ∷ [])) a.frame [])

-- ---- reading

-- the record: whether a frame was read, its count, and whether a loss waits
unfoldable pub reader_numbers : Reader → List ℕ
reader_numbers Fresh = 0 ∷ 0 ∷ 0 ∷ []
reader_numbers (Last count waiting) = 1 ∷ count ∷ bit waiting ∷ []

-- a record that no call reaches: its count is off the wheel
abbrev pub unread : Reader
unread = Last 4294967295 false

-- the record with these numbers: such a one for any other kind, for a flag above 1, and where a count or a flag is not 0 before the first frame
unfoldable pub reader_with : ℕ → ℕ → ℕ → Reader
reader_with kind last waiting =
    pick (and (eqb kind 1) (leb waiting 1))
    (Last last (eqb waiting 1))
    (pick (and (eqb kind 0) (and (eqb last 0) (eqb waiting 0))) Fresh unread)

abbrev pub reader_of : List ℕ → Reader
reader_of ns = reader_with (get_or ns 0 0) (count_of (get_or ns 1 0)) (get_or ns 2 0)

-- the count, the replay flag, the loss flag, the number of bits; and where the octets that hold them lie in the frame
unfoldable pub read_numbers : BitSettings → List ℕ → Reading → List ℕ
read_numbers s frame a =
    a.count
    ∷ a.replay
    ∷ bit a.lost
    ∷ a.bits
    ∷ pick (eqb a.refusal 0) (zone_at s.link) 0
    ∷ length (leading_octets s a.bits frame)
    ∷ []

unfoldable pub read_leaves : List ℕ → List ℕ → List ℕ → List ℕ → Left
read_leaves settings numbers frame answer =
    let s : BitSettings = bit_settings_of settings in
    let a : Reading = reading s (reader_of numbers) frame in
    pick (bits_short (length settings) (length numbers) 3 (length answer) 6)
    (left 2 numbers [] answer)
    (left a.refusal (kept a.refusal numbers (reader_numbers a.reader)) [] (told answer (read_numbers s frame a)))
