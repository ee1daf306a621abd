use Rattle.std.proofs.Common.{◌≡◌, take}
use Rattle.trailer.specs.Division.{remainder}
use Rattle.trailer.proofs.remainder.Given as goal

abbrev pub invariant-loop-octet : goal.invariant-loop-octet
invariant-loop-octet l = l.register ≡ remainder (take l.octet-index l.octets)
