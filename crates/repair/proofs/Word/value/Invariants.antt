-- The value of the symbols passed.
use Rattle.std.proofs.Common.{◌≡◌}
use Rattle.repair.specs.Code.{symbol}
use Rattle.repair.specs.Values.{value}
use Rattle.repair.proofs.Word.value.Given as goal

abbrev pub invariant-loop-k : goal.invariant-loop-k
invariant-loop-k l = l.sum ≡ value l.k l.j (λ i. symbol i l.self.number)
