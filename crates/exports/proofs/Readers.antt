-- Three numbers that pass as a reader's record are those of the record that they state.
-- Assumes nothing.
use Rattle.std.proofs.Common.{arith}
use Rattle.std.proofs.lemmas.Bool.Decides.{nat_tests}
use Rattle.frames.proofs.Wheel.{wheel_in_word}
use Rattle.bitstream.specs.Bitstream.{reader_reachable}
use Rattle.exports.specs.Bits.{reader_with, reader_numbers}
use Rattle.exports.specs.Statements.{ReadersExact}

pub readers_exact : ReadersExact
unfolding reader_with reader_reachable reader_numbers
readers_exact s kind last waiting rest passes = grind (arith, nat_tests, wheel_in_word s.link)
