-- The statements of `specs/Statements.antt`.
-- Assumes nothing.
use Rattle.std.proofs.Common.{◌≡◌, ℕ, ◌≤◌, List, [], ◌∷◌, length, arith}
use Rattle.std.specs.Prelude.{Result}
use Rattle.std.proofs.lemmas.Bool.Decides.{nat_tests}
use Rattle.octets.specs.Basics.{over, laid, part_of}
use Rattle.packets.specs.Unwrap.{unwraps, unit_part}
use Rattle.packets.specs.declared.damage.Refused.{Refused}
use Rattle.packets.specs.declared.unwrapping.Unit.{Unit}
use Rattle.multiplexer.specs.declared.Mux.{Mux}
use Rattle.extractor.specs.Records.{shown}
use Rattle.extractor.specs.Answers.{found_numbers}
use Rattle.extractor.specs.Found.{Found}
use Rattle.extractor.specs.declared.Extractor.{Extractor}
use Rattle.judge.specs.declared.Judge.{Judge}
use Rattle.bitstream.specs.declared.Writer.{Writer}
use Rattle.bitstream.specs.declared.Reader.{Reader}
use Rattle.relay.specs.declared.Table.{Table}
use Rattle.arrays.specs.Arrays.{told}
use Rattle.exports.specs.Packet.{unwrap_numbers, unit_numbers}
use Rattle.exports.specs.Mux.{mux_of, mux_numbers}
use Rattle.exports.specs.Extract.{extractor_with, extractor_of, extractor_numbers, step_numbers, part_numbers, show_numbers}
use Rattle.exports.specs.Judging.{judge_with, judge_of, judge_numbers}
use Rattle.exports.specs.Bits.{writer_of, reader_with, reader_of, reader_numbers}
use Rattle.exports.specs.Relaying.{table_of, table_numbers}
use Rattle.exports.proofs.Relays.{numbers_long, entries_again}
use Rattle.exports.specs.Statements.{Determined, Word, ExtractorWords, JudgeWords, ReaderWords, TableWords, StatedAgain, unit_named, part_named, PartsNamed}

pub determined : Determined
determined = record { same = λ e f. grind arith }

module _ (array : List ℕ) where
  mux_again : (m : Mux) → 4 ≤ length array → Word m.count → mux_of (told array (mux_numbers m)) ≡ m
  unfolding mux_of mux_numbers laid over
  mux_again m h w = grind (arith, nat_tests)

  extractor_again : (x : Extractor) → 4 ≤ length array → ExtractorWords x → extractor_of (told array (extractor_numbers x)) ≡ x
  unfolding extractor_with extractor_numbers laid over
  extractor_again x h w = grind (arith, nat_tests)

  judge_again : (j : Judge) → 4 ≤ length array → JudgeWords j → judge_of (told array (judge_numbers j)) ≡ j
  unfolding judge_with judge_numbers laid over
  judge_again j h w = grind (arith, nat_tests)

  writer_again : (w : Writer) → 1 ≤ length array → Word w.count → writer_of (told array (w.count ∷ [])) ≡ w
  unfolding writer_of laid over
  writer_again w h k = grind (arith, nat_tests)

  reader_again : (x : Reader) → 3 ≤ length array → ReaderWords x → reader_of (told array (reader_numbers x)) ≡ x
  unfolding reader_with reader_numbers laid over
  reader_again x h w = grind (arith, nat_tests)

  pub table_again : (t : Table) → 65 ≤ length array → TableWords t → table_of (told array (table_numbers t)) ≡ t
  unfolding table_of table_numbers laid over
  table_again t h w = grind (arith, nat_tests, numbers_long, entries_again)

  pub stated_again : StatedAgain array
  stated_again = record {
    mux = mux_again;
    extractor = extractor_again;
    judge = judge_again;
    writer = writer_again;
    reader = reader_again;
    table = table_again;
  }

  unit_named_by : (u : Result Unit Refused) (packet : List ℕ) → 5 ≤ length array
      → unit_named packet (unit_numbers (told array (unwrap_numbers (unwraps u))) packet) ≡ unit_part packet u
  unfolding unit_numbers unwrap_numbers unwraps unit_part part_of laid over
  unit_named_by u packet h = grind (arith, nat_tests)

  step_named_by : (found : Found) (frame store : List ℕ) → 5 ≤ length array
      → part_named frame store (show_numbers (told array (step_numbers (found_numbers frame store found))) frame store) ≡ shown frame store found
  unfolding show_numbers part_numbers step_numbers found_numbers shown part_of laid over
  step_named_by found frame store h = grind (arith, nat_tests)

  pub parts_named : PartsNamed array
  parts_named = record { unit = unit_named_by; step = step_named_by }
