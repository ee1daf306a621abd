-- The place that the search finds.
use Rattle.std.proofs.Common.{◌≡◌, rules, eqb}
use Rattle.std.proofs.lemmas.Iterator.{YieldsList-from_slice}
use Rattle.std.proofs.lemmas.Iterator.Search.{position_from_yields_List}
use Rattle.std.specs.List.{position}
use borrow.Author.Tests.{tests}
use Rattle.repair.proofs.Table.{powers, place_is}
use Rattle.repair.proofs.exponent.Goals as goal

pub returns : goal.returns
returns c =
    let found : c.position.result ≡ position (λ x. eqb x c.args.e) powers =
    position_from_yields_List (λ x. eqb x c.args.e) _ _ c.position.result c.position.ensures.ran (YieldsList-from_slice powers (cc))
    (λ x b q k. search (rules, tests)) in
    rw (c.unwrap_or.ensures, found) (place_is c.args.e)
