-- The front has the destinations so far, and the rest is as it was.
use Rattle.std.proofs.Common.{◌≡◌, ◌++◌, length, map, drop}
use Rattle.relay.proofs.write_destinations.Given as goal

abbrev pub invariant-loop-i : goal.invariant-loop-i
invariant-loop-i l = l.out ≡ map (λ p. p.1) l.yielded ++ drop (length l.yielded) l.initial.out
