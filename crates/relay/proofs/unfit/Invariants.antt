-- What is still to be looked at is unfit exactly where all of it is.
use Rattle.std.proofs.Common.{◌≡◌, drop}
use Rattle.relay.specs.Table.{unfit}
use Rattle.relay.proofs.unfit.Given as goal

abbrev pub invariant-loop-i : goal.invariant-loop-i
invariant-loop-i l = unfit l.entries ≡ unfit (drop l.i l.entries)
