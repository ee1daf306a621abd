-- The promises of `relay`.
-- Assumes nothing.
use Prim.Native.Nat.{ℕ}
use mathlib.Core.Path.{◌≡◌, refl, ap, ◌∙◌}
use mathlib.Core.List.{List}
use lib.ListN.{take}
use lib.Dec.{eqb}
use borrow.Author.Tests.{eqb-true}
use Rattle.std.specs.Prelude.{Option, Result}
use Rattle.octets.specs.Basics.{first}
use Rattle.octets.specs.declared.refusals.Refusal.{Refusal}
use Rattle.octets.proofs.Tests.{test}
use Rattle.packets.specs.Packet.{carried}
use Rattle.packets.specs.declared.damage.Refused.{Refused}
use Rattle.relay.specs.Table.{load_rows, table_of, entries_of, load_refused, loads, loading}
use Rattle.relay.specs.Route.{path, refused, written, routing, routes}
use Rattle.relay.specs.declared.Entry.{Entry}
use Rattle.relay.specs.declared.Table.{Table}
use Rattle.relay.proofs.Determined.{loaded_determined, routed_determined}
use Rattle.relay.proofs.Relayed.{relays}
use Rattle.relay.proofs.Ways.{written_unrefused}
use Rattle.demands.specs.Promises.{Left}
use Rattle.demands.specs.calls.Relay.{Loading, OfRelay}
use Rattle.demands.proofs.Promised.{by_rows, promised, left_same, exactly}

-- loading by its row
pub loading_by_row : (old : Table) (count : ℕ) (lent : List Entry)
    → loading old count lent
    ≡ by_rows (load_rows count (take count lent)) (record { refusal = 0; table = table_of (take count lent) }) (λ n. load_refused n old)
unfolding loading
loading_by_row old count lent =
    test (eqb (first (load_rows count (take count lent))) 0) (λ t. rw (eqb-true (first (load_rows count (take count lent))) 0 t) refl) (λ t. rw t refl)

-- the answer and the table are all of an outcome
loading_same : (o o' : Loading) → o.answer ≡ o'.answer → o.lent ≡ o'.lent → o ≡ o'
loading_same o o' p q =
    ap (λ (a : Result (Unit {0}) Refusal). record { answer = a; lent = o.lent }) p ∙ ap (λ (t : Table). record { answer = o'.answer; lent = t }) q

pub of_relay : OfRelay
unfolding routing
of_relay = record {
  empty = exactly;
  load = λ κs table count lent.
      promised (λ (o : Loading). loads o.answer o.lent) (λ r. r.refusal) (load_rows count (take count lent)) _ (λ n. load_refused n table.now)
      (loading_by_row table.now count lent) refl (λ n. refl)
      (record {
        free = tt;
        gives = λ o m. m;
        one = λ o o' p q.
            let same = loaded_determined {a = o.answer} {b = o'.answer} {t = o.lent} {u = o'.lent} p q in
            loading_same o o' same.0 same.1;
      });
  route = λ κs limit t p-lent out-lent.
      promised (λ (o : Left (Result (Option ℕ) Refused)). routes o.answer o.lent) (λ a. a.refusal) _ (written (path (entries_of t) p-lent.now) out-lent.now)
      (λ n. refused n (carried n limit p-lent.now) out-lent.now) refl (written_unrefused (path (entries_of t) p-lent.now) out-lent.now) (λ n. refl)
      (record {
        free = tt;
        gives = λ o m. m;
        one = λ o o' p q.
            let same = routed_determined {a = o.answer} {b = o'.answer} {p = o.lent} {q = o'.lent} p q in
            left_same o o' same.0 same.1;
      });
  keeps = relays;
}
