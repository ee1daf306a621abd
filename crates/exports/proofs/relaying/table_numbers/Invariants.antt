-- After i turns the count and the numbers of the first i entries are written.
use Rattle.std.proofs.Common.{◌≡◌, ℕ, ◌+◌, ◌*◌, ◌<◌, length, get_or, ◌∷◌}
use Rattle.exports.specs.Relaying.{entry_numbers}
use Rattle.exports.proofs.relaying.table_numbers.Given as goal

abbrev pub invariant-loop-i : goal.invariant-loop-i
invariant-loop-i l = record {
  long : length l.numbers ≡ 65;
  written : (k : ℕ) → k < 2 * l.i + 1 → get_or l.numbers k 0 ≡ get_or (l.fn.table.count ∷ entry_numbers l.fn.table.entries) k 0;
}
