-- `relay::load` meets its contract: the refusal leaves the old table, and else what stands past the entries is filled.
use Rattle.std.proofs.Common.{◌≡◌, ◌-◌, List, refl, sym, ap, ◌∙◌, length, replicate, arith, rules}
use Rattle.octets.proofs.ByNumber.{refused_not_0}
use Rattle.relay.specs.Table.{no_entry, loading}
use Rattle.relay.specs.declared.Entry.{Entry}
use Rattle.relay.specs.declared.Table.{Table}
use Rattle.relay.proofs.Tables.{taken, table_made, table_filled}
use Rattle.relay.proofs.load.Goals as goal

pub returns-in_err-may_load : goal.returns-in_err-may_load
unfolding loading
returns-in_err-may_load c = let some = refused_not_0 c.in_err-may_load.field-0.0 in search rules

pub returns : goal.returns
returns c =
    let a = c.args in
    let long : length a.entries ≡ 32 = search rules in
    let filled : c.fill.new.self ≡ replicate (32 - a.count) no_entry = search rules in
    let few = c.in_ok-may_load.ensures.few refl in
    ap (λ (es : List Entry). record { refusal = 0; table = record { count = a.count; entries = es } })
    (table_filled a.count a.entries c.fill.new.self long few filled)
    ∙ sym
    (taken a.table.now a.count a.entries (sym c.in_ok-may_load.ensures.value)
    ∙ ap (λ (t : Table). record { refusal = 0; table = t }) (table_made a.count a.entries (omega (arith, long, few))))
