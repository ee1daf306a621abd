-- What the public functions of `relay` promise.
use Rattle.std.specs.Prelude.{ℕ, List, Option, Result, length, take}
use Rattle.std.specs.Borrow.{MutBor}
use contract.Lifetimes.{Lfts}
use denote.Ref.{at_last}
use Rattle.octets.specs.declared.refusals.Refusal.{Refusal}
use Rattle.packets.specs.Packet.{carried}
use Rattle.packets.specs.declared.damage.Refused.{Refused}
use Rattle.relay.specs.Table.{empty, load_rows, load_refused, loads, loading}
use Rattle.relay.specs.Route.{route_rows, refused, routing, routes}
use Rattle.relay.specs.Laws.{Relays}
use Rattle.relay.specs.declared.Entry.{Entry}
use Rattle.relay.specs.declared.Table.{Table}
use Rattle.relay.proofs.empty.Reads as empty_fn
use Rattle.relay.proofs.load.Reads as load_fn
use Rattle.relay.proofs.route.Reads as route_fn
use Rattle.demands.specs.Promises.{Slice, MutSlice, Left, as_read, Is, Promised}

-- what comes of a call that is lent a table: its answer, and the table after it
pub record Loading : Type 0 where
  pub answer : Result (Unit {0}) Refusal
  pub lent : Table

-- the empty table, loading and routing; and what they keep to, the tables that pass the check for refusal 10 among it, which is exact
pub record OfRelay : Type 0 where
  pub empty : Is (as_read (empty_fn.Pre tt tt) (λ (r : Table). empty_fn.Post tt tt r tt)) empty
  pub load : (κs : Lfts 1) (table : MutBor Table) (count : ℕ) (entries : List Entry)
      → Promised (as_read (load_fn.Pre κs (table, (count, (entries, tt))))
      (λ (o : Loading). load_fn.Post κs (table, (count, (entries, tt))) o.answer (at_last table o.lent, (count, (entries, tt)))))
      (loading table.now count entries) (load_rows count (take count entries)) (λ o. loads o.answer o.lent) (λ r. r.refusal)
      (λ n. load_refused n table.now)
  pub route : (κs : Lfts 2) (limit : ℕ) (t : Table) (p : Slice) (out : MutSlice)
      → Promised (as_read (route_fn.Pre κs (limit, (t, (p, (out, tt)))))
      (λ (o : Left (Result (Option ℕ) Refused)). route_fn.Post κs (limit, (t, (p, (out, tt)))) o.answer (limit, (t, (p, (at_last out o.lent, tt))))))
      (routing limit t p.now out.now) (route_rows limit t p.now (length out.now)) (λ o. routes o.answer o.lent) (λ a. a.refusal)
      (λ n. refused n (carried n limit p.now) out.now)
  pub keeps : Relays
