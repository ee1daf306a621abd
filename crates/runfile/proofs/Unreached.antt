-- Progress that no file can lead to has no good record before it.
-- Assumes nothing.
use mathlib.Core.Path.{refl}
use Rattle.octets.proofs.Choices.{apart}
use Rattle.runfile.specs.Steps.{reachable, body_length, taken, closed}
use Rattle.runfile.specs.Statements.{UnreachedAreBad}
use Rattle.runfile.specs.declared.Progress.TheVariants.{Start, Running, Ended, Bad}

pub unreached_are_bad : UnreachedAreBad
unfolding reachable body_length taken closed
unreached_are_bad Start e = apart (cc)
unreached_are_bad (Running s n) e = record { no_body = λ kind. rw e refl; not_taken = λ kind body. rw e refl; not_closed = refl }
unreached_are_bad (Ended n) e = record { no_body = λ kind. refl; not_taken = λ kind body. refl; not_closed = rw e refl }
unreached_are_bad (Bad n) e = record { no_body = λ kind. refl; not_taken = λ kind body. refl; not_closed = refl }
