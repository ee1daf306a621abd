-- What is shown of the C interface besides each call's promise.
use Rattle.std.specs.Prelude.{◌≡◌, ℕ, ◌+◌, ◌-◌, ◌*◌, ◌/◌, ◌≤◌, ◌<◌, List, [], ◌∷◌, ◌++◌, Bool, true, false, not, length, get_or, take, drop, replicate, eqb, Result}
use Rattle.octets.specs.Basics.{pick, and, All}
use Rattle.frames.specs.declared.Settings.{Settings}
use Rattle.packets.specs.Header.{reading}
use Rattle.packets.specs.Packet.{limit_in_range}
use Rattle.packets.specs.Unwrap.{unwraps, unit_part}
use Rattle.packets.specs.declared.damage.Refused.{Refused}
use Rattle.packets.specs.declared.unwrapping.Unit as unwrapping
use Rattle.multiplexer.specs.Calls.{to_flush, answer}
use Rattle.multiplexer.specs.declared.Mux.{Mux}
use Rattle.extractor.specs.Records.{shown}
use Rattle.extractor.specs.Answers.{enter_answer, found_numbers, step_answer}
use Rattle.extractor.specs.Found.{Found}
use Rattle.extractor.specs.declared.Extractor.{Extractor}
use Rattle.extractor.specs.declared.Extractor.TheVariants.{Fresh, Astray, InStep, Walking, Leaving}
use Rattle.judge.specs.Calls.{close_call}
use Rattle.judge.specs.declared.Judge.{Judge}
use Rattle.judge.specs.declared.Judge.TheVariants.{Open, Sound, Faulty}
use Rattle.frames.specs.declared.bits.BitSettings.{BitSettings}
use Rattle.bitstream.specs.Bitstream.{reader_reachable}
use Rattle.bitstream.specs.declared.Writer.{Writer}
use Rattle.bitstream.specs.declared.Reader.{Reader}
use Rattle.bitstream.specs.declared.Reader.TheVariants as reader
use Rattle.relay.specs.Table.{is_table}
use Rattle.relay.specs.Route.{routing}
use Rattle.relay.specs.declared.Table.{Table}
use Rattle.arrays.specs.Arrays.{told}
use Rattle.exports.specs.Left.{Left, left}
use Rattle.exports.specs.Packet.{header_numbers, formed_numbers, unwrap_numbers, unit_numbers}
use Rattle.exports.specs.Mux.{mux_of, mux_numbers, flush_numbers}
use Rattle.exports.specs.Extract.{extractor_of, extractor_numbers, enter_numbers, step_numbers, show_numbers}
use Rattle.exports.specs.Judging.{judge_of, judge_numbers, close_numbers}
use Rattle.exports.specs.Bits.{writer_of, reader_of, reader_numbers}
use Rattle.exports.specs.Relaying.{table_of, table_numbers, load_leaves, route_numbers}
use Rattle.exports.specs.Relaying as relaying

-- a promise says what `left` is: two outcomes that meet it are the same
pub record Determined : Type 0 where
  pub same : {r r' : ℕ} {n n' o o' a a' : List ℕ} {x : Left} → left r n o a ≡ x → left r' n' o' a' ≡ x
      → ((r ≡ r') × (n ≡ n')) × ((o ≡ o') × (a ≡ a'))

-- a number of 32 bits, as each count of a record is
abbrev pub Word : ℕ → Type 0
Word n = n ≤ 4294967295

abbrev pub ExtractorWords : Extractor → Type 0
ExtractorWords Fresh = Unit {0}
ExtractorWords (Astray last) = Word last
ExtractorWords (InStep last held) = Word last
ExtractorWords (Walking last held at) = Word last
ExtractorWords (Leaving last) = Word last

abbrev pub JudgeWords : Judge → Type 0
JudgeWords Open = Unit {0}
JudgeWords (Sound tally last held) = Word tally × Word last
JudgeWords (Faulty tally at) = Word tally × Word at

abbrev pub ReaderWords : Reader → Type 0
ReaderWords reader.Fresh = Unit {0}
ReaderWords (reader.Last count waiting) = Word count

-- a table's entries, each an APID of 16 bits and a destination of 8
abbrev pub TableWords : Table → Type 0
TableWords t = (length t.entries ≡ 32) × All (λ e. (e.apid ≤ 65535) × (e.destination ≤ 255)) t.entries

-- what is laid into a record's array states the record again: a call goes on from what the one before it left
pub record StatedAgain (array : List ℕ) : Type 0 where
  pub mux : (m : Mux) → 4 ≤ length array → Word m.count → mux_of (told array (mux_numbers m)) ≡ m
  pub extractor : (x : Extractor) → 4 ≤ length array → ExtractorWords x → extractor_of (told array (extractor_numbers x)) ≡ x
  pub judge : (j : Judge) → 4 ≤ length array → JudgeWords j → judge_of (told array (judge_numbers j)) ≡ j
  pub writer : (w : Writer) → 1 ≤ length array → Word w.count → writer_of (told array (w.count ∷ [])) ≡ w
  pub reader : (x : Reader) → 3 ≤ length array → ReaderWords x → reader_of (told array (reader_numbers x)) ≡ x
  pub table : (t : Table) → 65 ≤ length array → TableWords t → table_of (told array (table_numbers t)) ≡ t

-- Refusal 10 of reading bits is exact in arrays: three numbers that pass are those of the record that they state.
abbrev pub ReadersExact : Type 0
ReadersExact = (s : BitSettings) (kind last waiting : ℕ) (rest : List ℕ) → reader_reachable s (reader_of (kind ∷ last ∷ waiting ∷ rest)) ≡ true
    → reader_numbers (reader_of (kind ∷ last ∷ waiting ∷ rest)) ≡ kind ∷ last ∷ waiting ∷ []

-- A list with a destination above 255, in whichever entry, is told by `wide`. A load that is not refused leaves the list's own numbers behind their count, and zeros.
-- Refusal 10 of routing is exact: a table that a load leaves in an array passes, and one that passes is left again by loading its own entries.
pub record TablesLoaded : Type 0 where
  pub wide : (entries : List ℕ) (i : ℕ) → 2 * i + 1 < length entries → 255 < get_or entries (2 * i + 1) 0 → relaying.wide entries ≡ true
  pub narrow : (entries : List ℕ) → ((i : ℕ) → 2 * i + 1 < length entries → get_or entries (2 * i + 1) 0 ≤ 255) → relaying.wide entries ≡ false
  pub holds : (entries table : List ℕ) → (load_leaves entries table).refusal ≡ 0
      → (load_leaves entries table).numbers ≡ told table (length entries / 2 ∷ (entries ++ replicate (64 - length entries) 0))
  pub passes : (entries table : List ℕ) → (load_leaves entries table).refusal ≡ 0 → is_table (table_of (load_leaves entries table).numbers) ≡ true
  pub again : (count : ℕ) (numbers : List ℕ) → 64 ≤ length numbers → is_table (table_of (count ∷ numbers)) ≡ true
      → load_leaves (take (2 * count) numbers) (count ∷ numbers) ≡ left 0 (count ∷ numbers) [] []

-- the octets of a packet that a start and a size name
abbrev pub unit_named : List ℕ → List ℕ → List ℕ
unit_named packet ns = take (get_or ns 1 0) (drop (get_or ns 0 0) packet)

-- the octets that a place, a start and a size name: 2 in the store, else in the frame
abbrev pub part_named : List ℕ → List ℕ → List ℕ → List ℕ
part_named frame store ns = take (get_or ns 2 0) (drop (get_or ns 1 0) (pick (eqb (get_or ns 0 0) 2) store frame))

-- what is laid into an answer's array by unwrapping or by a step, lent to `itz_unit_part` or `itz_show`, names the very octets that
-- `unit_part` and `show` hand back for that answer
pub record PartsNamed (array : List ℕ) : Type 0 where
  pub unit : (u : Result unwrapping.Unit Refused) (packet : List ℕ) → 5 ≤ length array
      → unit_named packet (unit_numbers (told array (unwrap_numbers (unwraps u))) packet) ≡ unit_part packet u
  pub step : (found : Found) (frame store : List ℕ) → 5 ≤ length array
      → part_named frame store (show_numbers (told array (step_numbers (found_numbers frame store found))) frame store) ≡ shown frame store found

-- all of them are 0
unfoldable pub all_zero : List ℕ → Bool
all_zero [] = true
all_zero (n ∷ ns) = and (eqb n 0) (all_zero ns)

-- 0 is "refused, nothing said": without a refusal the first number is not 0, and with one every number is
unfoldable pub told_apart : ℕ → List ℕ → Bool
told_apart refusal ns = pick (eqb refusal 0) (not (eqb (get_or ns 0 0) 0)) (all_zero ns)

-- so it is of every answer that names an outcome, but that a packet refused by 8 may have its damage behind the others
pub record ZeroIsRefused : Type 0 where
  pub header : (limit : ℕ) (os : List ℕ) → told_apart (reading limit os).refusal (header_numbers (reading limit os)) ≡ true
  pub formed : (limit : ℕ) (p : List ℕ) → told_apart (pick (limit_in_range limit) 0 1) (formed_numbers limit p) ≡ true
  pub flush : (s : Settings) (m : Mux) (frame : List ℕ)
      → told_apart (answer s m to_flush frame).refusal (flush_numbers (answer s m to_flush frame)) ≡ true
  pub enter : (s : Settings) (x : Extractor) (store frame : List ℕ)
      → told_apart (enter_answer s x store frame).answer.refusal (enter_numbers (enter_answer s x store frame).answer) ≡ true
  pub step : (s : Settings) (x : Extractor) (store frame : List ℕ)
      → told_apart (step_answer s x store frame).answer.refusal (step_numbers (step_answer s x store frame).answer) ≡ true
  pub close : (s : Settings) (j : Judge) (store : List ℕ)
      → told_apart (close_call s store j).refusal (close_numbers (close_call s store j)) ≡ true
  pub route : (limit : ℕ) (t : Table) (p output : List ℕ)
      → told_apart (routing limit t p output).refusal (take 2 (route_numbers (routing limit t p output))) ≡ true
