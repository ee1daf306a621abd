-- What is shown of run files and of their reader.
use Rattle.std.specs.Prelude.{ℕ, ◌<◌, ◌↔◌, ◌≡◌, List, true, false, take}
use Rattle.std.proofs.Math.Option.{none}
use Rattle.octets.specs.Basics.{AllOctets}
use Rattle.frames.specs.declared.Settings.{Settings}
use Rattle.runfile.specs.RunFile.{reading, Recorded, run_file, Run, whole}
use Rattle.runfile.specs.Steps.{bad, reachable, body_length, taken, closed, heard_of}
use Rattle.runfile.specs.declared.Progress.{Progress}
use Rattle.runfile.specs.declared.Progress.TheVariants.{Start}

-- The run file of settings and frames says these and nothing else; octets without a bad record are the run file of settings and
-- frames; and what the reader hears of any octets, handed to it record by record, is what the grammar says of them.
pub record ReadsRunFiles : Type 0 where
  pub written_read : (s : Settings) (fs : List (List ℕ)) → Recorded s fs → reading (run_file s fs) ≡ whole s fs
  pub read_run : (os : List ℕ) → AllOctets os → (reading os).bad ≡ none → Run os
  pub heard_is_reading : (os : List ℕ) → heard_of os ≡ reading os

-- the progress that files lead to: record after record, each an octet of kind and as much of its body as there is, and then the
-- end of the input
pub data Reached : Progress → Type 0 where
  begins : Reached Start
  takes : {r : Progress} (kind : ℕ) (os : List ℕ) → kind < 256 → AllOctets os → Reached r
      → Reached (taken r kind (take (body_length r kind) os))
  closes : {r : Progress} → Reached r → Reached (closed r)

-- Files lead exactly to the progress that passes the test.
abbrev pub ReachesAll : Type 0
ReachesAll = (r : Progress) → Reached r ↔ (reachable r ≡ true)

-- From any other progress every record is bad, and so is the end of the input, at the number of the record that would come next.
pub record TakesNothing (r : Progress) : Type 0 where
  pub no_body : (kind : ℕ) → body_length r kind ≡ 0
  pub not_taken : (kind : ℕ) (body : List ℕ) → taken r kind body ≡ bad r
  pub not_closed : closed r ≡ bad r

abbrev pub UnreachedAreBad : Type 0
UnreachedAreBad = (r : Progress) → reachable r ≡ false → TakesNothing r
