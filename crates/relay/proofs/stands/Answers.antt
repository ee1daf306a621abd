-- `relay::stands` meets its contract: one of the entries equals it.
use Rattle.std.proofs.Common.{sym, ◌∙◌, rules, tests}
use Rattle.std.proofs.lemmas.Iterator.{YieldsList-from_slice}
use Rattle.std.proofs.lemmas.Iterator.Search.{any_from_yields_List}
use Rattle.relay.proofs.Chains.{equal, stands_any}
use Rattle.relay.proofs.stands.Goals as goal

pub returns : goal.returns
returns c =
    let e = c.args.e.now in
    any_from_yields_List (λ f. equal f e) _ _ _ c.any.ensures.ran (YieldsList-from_slice c.args.entries.now cc) (λ x b q k. search (rules, tests))
    ∙ sym (stands_any e c.args.entries.now)
