-- `relay::clear` meets its contract: every entry equals that of none.
use Rattle.std.proofs.Common.{sym, ◌∙◌, rules, tests}
use Rattle.std.proofs.lemmas.Iterator.{YieldsList-from_slice}
use Rattle.std.proofs.lemmas.Iterator.Search.{all_from_yields_List}
use Rattle.relay.specs.Table.{no_entry}
use Rattle.relay.proofs.Chains.{equal, clear_all}
use Rattle.relay.proofs.clear.Goals as goal

pub returns : goal.returns
returns c =
    all_from_yields_List (λ e. equal e no_entry) _ _ _ c.all.ensures.ran (YieldsList-from_slice c.args.entries.now cc) (λ x b q k. search (rules, tests))
    ∙ sym (clear_all c.args.entries.now)
