-- DEMAND 1: every public function answers for every input: its contract asks nothing of the caller. Its outcomes say what the written rules
-- give, refusals by the table, and are determined by it. A refused call leaves the record and the octets that it was given.
-- Each promise is the function's own contract. That a call ends and stays within its buffers is what the checker shows of each function.
use Rattle.demands.specs.calls.Octets.{OfOctets}
use Rattle.demands.specs.calls.Words.{OfWords}
use Rattle.demands.specs.calls.Arrays.{OfArrays}
use Rattle.demands.specs.calls.Packets.{OfPackets}
use Rattle.demands.specs.calls.Wrapping.{OfWrapping}
use Rattle.demands.specs.calls.Relay.{OfRelay}
use Rattle.demands.specs.calls.Space.{OfSpace}
use Rattle.demands.specs.calls.Trailer.{OfTrailer}
use Rattle.demands.specs.calls.Frames.{OfFrames}
use Rattle.demands.specs.calls.Multiplexer.{OfMultiplexer}
use Rattle.demands.specs.calls.Extractor.{OfExtractor}
use Rattle.demands.specs.calls.Judge.{OfJudge}
use Rattle.demands.specs.calls.Bitstream.{OfBitstream}
use Rattle.demands.specs.calls.RunFile.{OfRunFile}
use Rattle.demands.specs.calls.Exports.{OfExports}

pub record Demand1 : Type 0 where
  pub octets : OfOctets
  pub words : OfWords
  pub arrays : OfArrays
  pub packets : OfPackets
  pub wrapping : OfWrapping
  pub relay : OfRelay
  pub space : OfSpace
  pub trailer : OfTrailer
  pub frames : OfFrames
  pub multiplexer : OfMultiplexer
  pub extractor : OfExtractor
  pub judge : OfJudge
  pub bitstream : OfBitstream
  pub runfile : OfRunFile
  pub exports : OfExports
