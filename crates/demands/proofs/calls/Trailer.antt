-- The promises of `trailer`.
-- Assumes nothing.
use Rattle.demands.specs.calls.Trailer.{OfTrailer}
use Rattle.demands.proofs.Promised.{exactly}

pub of_trailer : OfTrailer
of_trailer = record {
  remainder = λ κs os. exactly;
  extra = λ on. exactly;
  is_wrong = λ κs on f. exactly;
  end_frame = λ κs on buf at. exactly;
}
