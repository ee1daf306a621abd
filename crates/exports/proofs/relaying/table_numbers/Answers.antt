-- Each turn writes the two numbers of one more entry.
use Rattle.std.proofs.Common.{◌≡◌, ◌∷◌, length, length-set, arith, rules}
use Rattle.std.proofs.lemmas.Grind.{common_steps, same_number_lists}
use Rattle.exports.specs.Relaying.{entry_numbers, table_numbers}
use Rattle.exports.proofs.Relays.{numbers_at, numbers_long}
use Rattle.exports.proofs.relaying.table_numbers.Goals as goal

pub loop-i-preserved : goal.loop-i-preserved
loop-i-preserved c =
    let t = c.args.table in
    let all : length t.entries ≡ 32 = search rules in
    let next = numbers_at t.count t.entries c.loop-i.i (omega arith) in
    record {
      long = simp length-set c.loop-i.invariant.long;
      written = λ k h. grind (arith, common_steps, c.loop-i.invariant.written k, next);
    }

pub returns : goal.returns
unfolding table_numbers
returns c =
    let t = c.args.table in
    let all : length t.entries ≡ 32 = search rules in
    same_number_lists c.loop-i.numbers (t.count ∷ entry_numbers t.entries) (omega (arith, c.loop-i.invariant.long, numbers_long t.entries))
    (λ k h. c.loop-i.invariant.written k (omega (arith, c.loop-i.invariant.long)))
