-- What is shown of the bitstream channel, over the rules of Bitstream.
use Rattle.std.specs.Prelude.{◌↔◌, ◌⊎◌, ◌≡◌, ℕ, ◌+◌, ◌*◌, ◌^◌, ◌≤◌, ◌<◌, List, [], ◌∷◌, ◌++◌, true, false, length, take}
use Rattle.octets.specs.Basics.{All, AllOctets}
use Rattle.frames.specs.Link.{zone_at, headers, count_width, missing}
use Rattle.frames.specs.BitFrame.{bits_in_range, bit_zone_of, bit_count, bit_replay, bit_pointer_word, most_bits}
use Rattle.frames.specs.declared.bits.BitSettings.{BitSettings}
use Rattle.bitstream.specs.Bitstream.{octets_for, bit_at, pointer_for, zone_with, begun, writer_reachable, written, reader_reachable, loss_flag, next_reader, Reading, reading, leading_octets}
use Rattle.bitstream.specs.Loss.{BitUnit, follows, since_bits, any_lost, flag, units_after, BitsSaid, run_said}
use Rattle.bitstream.specs.declared.Writer.{Writer}
use Rattle.bitstream.specs.declared.Reader.{Reader}
use Rattle.bitstream.specs.declared.Reader.TheVariants.{Fresh, Last}

-- a frame that was written with this count and n bits is read back: the count, the number of bits, and these bits
pub record ReadBack (s : BitSettings) (x : Reader) (c n : ℕ) (bits f : List ℕ) : Type 0 where
  pub said : reading s x f ≡ record { refusal = 0; count = c; replay = 0; bits = n; lost = loss_flag s x c n; reader = next_reader s x c n }
  pub size : length (leading_octets s n f) ≡ octets_for n
  pub same_bits : (i : ℕ) → i < n → bit_at (leading_octets s n f) i ≡ bit_at bits i

-- a frame that is read, with n bits, has them at the front of its zone, in as few octets as hold them; and writing these bits
-- again gives its headers, the replay flag apart, and its bits
pub record HasBits (s : BitSettings) (n : ℕ) (f : List ℕ) : Type 0 where
  pub inside : n ≤ most_bits s
  pub size : length (leading_octets s n f) ≡ octets_for n
  pub enough : n ≤ 8 * octets_for n
  pub fewest : 8 * octets_for n < n + 8
  pub same_bits : (i : ℕ) → i < n → bit_at (leading_octets s n f) i ≡ bit_at (bit_zone_of s f) i
  pub same_head : take (zone_at s.link) f ≡ headers s.link (bit_count s f) (bit_replay s f) (bit_pointer_word (pointer_for s n))
  pub same_again : (i : ℕ) → i < n → bit_at (zone_with s n (leading_octets s n f)) i ≡ bit_at (bit_zone_of s f) i

-- what is said of each frame of a run, and the record after it
pub record RunRead : Type 0 where
  pub said : List BitsSaid
  pub reader : Reader

-- what an answer says, the record apart
abbrev pub as_said : Reading → BitsSaid
as_said a = record { refusal = a.refusal; count = a.count; replay = a.replay; bits = a.bits; lost = a.lost }

-- one call for each frame, with the record that the call before it left
unfoldable pub run_read : BitSettings → Reader → List (List ℕ) → RunRead
run_read s x [] = record { said = []; reader = x }
run_read s x (f ∷ fs) =
    let a : Reading = reading s x f in
    let rest : RunRead = run_read s a.reader fs in
    record { said = as_said a ∷ rest.said; reader = rest.reader }

-- the record that stands for the units read, the newest first: its count, and whether any count since the last unit with bits did not follow
unfoldable pub reader_for : List BitUnit → Reader
reader_for [] = Fresh
reader_for (u ∷ us) = Last u.count (any_lost (since_bits (u ∷ us)))

-- among the units read there is one whose count did not follow, fill alone as are all behind it
pub record LostInFill (us : List BitUnit) : Type 0 where
  pub behind : List BitUnit
  pub unit : BitUnit
  pub older : List BitUnit
  pub place : us ≡ behind ++ (unit ∷ older)
  pub alone : All (λ (u : BitUnit). u.bits ≡ 0) (unit ∷ behind)
  pub lost : unit.followed ≡ false

-- From a fresh record, with nothing touched between calls, the calls say of every frame of any run what the rule gives, refused frames
-- among them; and the record after them stands for the units read.
pub record LossesWait : Type 0 where
  pub said : (s : BitSettings) (fs : List (List ℕ)) → (run_read s Fresh fs).said ≡ run_said s [] fs
  pub left : (s : BitSettings) (fs : List (List ℕ)) → (run_read s Fresh fs).reader ≡ reader_for (units_after s [] fs)
  -- on every channel alike, where its counts are as wide
  pub alike : (s t : BitSettings) (x : Reader) (c n : ℕ) → count_width s.link ≡ count_width t.link
      → (loss_flag s x c n ≡ loss_flag t x c n) × (next_reader s x c n ≡ next_reader t x c n)
  -- what the rule comes to, however long the fill and the gap: the flag is set exactly with bits whose own count did not follow or that come behind
  -- a loss in fill; and a count follows exactly where no frame is missing round the wheel
  pub exactly : (u : BitUnit) (us : List BitUnit) → (flag u us ≡ true) ↔ ((0 < u.bits) × ((u.followed ≡ false) ⊎ LostInFill us))
  pub wheel : (width c : ℕ) (u : BitUnit) (us : List BitUnit) → c < 2 ^ width → (follows width (u ∷ us) c ≡ true) ↔ (missing width u.count c ≡ 0)

-- the records that any calls lead to, refused or not, from the first on
pub data WriterReached (s : BitSettings) : Writer → Type 0 where
  nothing_written : WriterReached s begun
  wrote_more : {w : Writer} (bits : List ℕ) (n : ℕ) (frame : List ℕ) → AllOctets bits → AllOctets frame → WriterReached s w
      → WriterReached s (written s w bits n frame).said.writer

pub data ReaderReached (s : BitSettings) : Reader → Type 0 where
  nothing_read : ReaderReached s Fresh
  read_more : {x : Reader} (f : List ℕ) → AllOctets f → ReaderReached s x → ReaderReached s (reading s x f).reader

-- Calls lead exactly to the records that pass the test for refusal 10.
pub record ReachesAll : Type 0 where
  pub writers : (s : BitSettings) → bits_in_range s ≡ true → (w : Writer) → WriterReached s w ↔ (writer_reachable s w ≡ true)
  pub readers : (s : BitSettings) → bits_in_range s ≡ true → (x : Reader) → ReaderReached s x ↔ (reader_reachable s x ≡ true)
