-- The sum of the digits passed.
use Rattle.std.proofs.Common.{◌≡◌, ℕ, ◌*◌, ◌/◌, ◌%◌, ◌^◌, ◌<◌}
use Rattle.repair.specs.Values.{total}
use Rattle.repair.proofs.digits_sum.Given as goal

abbrev pub invariant-loop-i : goal.invariant-loop-i
invariant-loop-i g l = (t : ℕ → ℕ) → ((i r : ℕ) → i < 4 → goal.F-post g l.term i r → r ≡ t i) → l.sum ≡ total l.i (λ i. l.e / 2 ^ i % 2 * t i)
