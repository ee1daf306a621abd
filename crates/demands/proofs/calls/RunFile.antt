-- The promises of `runfile`.
-- Assumes nothing.
use Rattle.runfile.proofs.Reaches.{reaches_all}
use Rattle.runfile.proofs.Unreached.{unreached_are_bad}
use Rattle.demands.specs.calls.RunFile.{OfRunFile}
use Rattle.demands.proofs.Promised.{exactly}

pub of_runfile : OfRunFile
of_runfile = record {
  body_length = λ r kind. exactly;
  take = λ κs r kind body. exactly;
  close = λ r. exactly;
  exact = reaches_all;
  unreached = unreached_are_bad;
}
