-- Demand 2 holds: its parts are the crates' own laws.
-- Assumes nothing.
use Rattle.words.proofs.Fields.{placed_read, placed_below, placed_above}
use Rattle.wrapping.proofs.Rounds.{round_trip}
use Rattle.space.proofs.Spaces.{space_written_read, space_read_written}
use Rattle.trailer.proofs.Printed.{as_printed, syndrome}
use Rattle.trailer.proofs.Sharp.{sharp}
use Rattle.frames.proofs.Theorems.{headers_read}
use Rattle.frames.proofs.Editions.{editions}
use Rattle.frames.proofs.Worth.{worth}
use Rattle.bitstream.proofs.ReadBack.{read_back, has_bits}
use Rattle.bitstream.proofs.Losses.{losses_wait}
use Rattle.extractor.proofs.Theorems.{says_the_rules, spends_in_time}
use Rattle.runfile.proofs.Theorems.{reads_run_files}
use Rattle.demands.specs.Demand2.{Demand2}
use Rattle.carries.proofs.CarefulRuns.{run_delivers, list_carried}
use Rattle.demands.proofs.Counts.{counts_told}
use Rattle.demands.proofs.RoundTrips.{orders_handed_over, list_handed_over}
use Rattle.demands.proofs.SpaceAndPackets.{same_header}
use Rattle.demands.proofs.Damage.{damages}

pub demand_2 : Demand2
demand_2 = record {
  fields = record { read = placed_read; below = placed_below; above = placed_above };
  headers_read = headers_read;
  editions = editions;
  counts = counts_told;
  trailers = record { as_printed = as_printed; syndrome = syndrome; worth = worth; sharp = sharp };
  packets_read = record { wrapped = round_trip; space = space_written_read; space_again = space_read_written; space_same = same_header; damages = damages };
  bits_read = record { written_read = read_back; read_has = λ s x f o done. has_bits s x f o done; losses = losses_wait };
  orders = run_delivers;
  orders_back = orders_handed_over;
  list = list_carried;
  list_back = list_handed_over;
  events = says_the_rules;
  in_time = spends_in_time;
  run_files = reads_run_files;
}
