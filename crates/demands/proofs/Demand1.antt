-- Demand 1, proved: the promises of each crate.
-- Assumes nothing.
use Rattle.demands.specs.Demand1.{Demand1}
use Rattle.demands.proofs.calls.Octets.{of_octets}
use Rattle.demands.proofs.calls.Words.{of_words}
use Rattle.demands.proofs.calls.Arrays.{of_arrays}
use Rattle.demands.proofs.calls.Packets.{of_packets}
use Rattle.demands.proofs.calls.Wrapping.{of_wrapping}
use Rattle.demands.proofs.calls.Relay.{of_relay}
use Rattle.demands.proofs.calls.Space.{of_space}
use Rattle.demands.proofs.calls.Trailer.{of_trailer}
use Rattle.demands.proofs.calls.Frames.{of_frames}
use Rattle.demands.proofs.calls.Multiplexer.{of_multiplexer}
use Rattle.demands.proofs.calls.Extractor.{of_extractor}
use Rattle.demands.proofs.calls.Judge.{of_judge}
use Rattle.demands.proofs.calls.Bitstream.{of_bitstream}
use Rattle.demands.proofs.calls.RunFile.{of_runfile}
use Rattle.demands.proofs.calls.Exports.{of_exports}

pub demand_1 : Demand1
demand_1 = record {
  octets = of_octets;
  words = of_words;
  arrays = of_arrays;
  packets = of_packets;
  wrapping = of_wrapping;
  relay = of_relay;
  space = of_space;
  trailer = of_trailer;
  frames = of_frames;
  multiplexer = of_multiplexer;
  extractor = of_extractor;
  judge = of_judge;
  bitstream = of_bitstream;
  runfile = of_runfile;
  exports = of_exports;
}
