-- The pairs are looked at in order, as the definition does.
use Rattle.std.proofs.Common.{ltb, get_or, List, ℕ, ◌∙◌, rules, tests}
use Rattle.std.proofs.lemmas.Iterator.{YieldsList-from_slice}
use Rattle.std.proofs.lemmas.Iterator.Search.{any_from_yields_List}
use Rattle.exports.proofs.Relays.{wide_by_pairs}
use Rattle.exports.proofs.relaying.wide.Goals as goal

pub returns : goal.returns
returns c =
    any_from_yields_List (λ (pair : List ℕ). ltb 255 (get_or pair 1 0)) _ _ _ c.any.ensures.ran
    (YieldsList-from_slice c.as_chunks.result.0.now (cc)) (λ x b q k. search (rules, tests))
    ∙ rw c.as_chunks.ensures.front (wide_by_pairs c.args.numbers.now)
