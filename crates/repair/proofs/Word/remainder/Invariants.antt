-- What is left of all but the last k symbols.
use Rattle.std.proofs.Common.{◌≡◌, ◌-◌, ◌*◌, ◌/◌, ◌^◌}
use Rattle.repair.specs.Code.{remainder, four}
use Rattle.repair.proofs.Word.remainder.Given as goal

abbrev pub invariant-loop-k : goal.invariant-loop-k
invariant-loop-k l = l.left ≡ four (remainder (10 - l.k) (l.self.number / 2 ^ (4 * l.k)))
