-- The answers in numbers tell the answers apart: two outcomes that meet a promise are equal.
-- Assumes nothing.
use mathlib.Core.Path.{◌≡◌, refl, sym, ap, ◌∙◌}
use mathlib.Core.List.{List}
use Prim.Native.Nat.{ℕ}
use native.Mathlib.Omega.{arith}
use Rattle.std.specs.Prelude.{Option, None, Some, Result, Ok, Err}
use Rattle.octets.specs.declared.refusals.Refusal.{Refusal}
use Rattle.octets.proofs.ByNumber.{refused_not_0, same_refusal}
use Rattle.packets.specs.declared.damage.Refused.{Refused}
use Rattle.packets.proofs.Determined.{same_refused}
use Rattle.relay.specs.Table.{Loaded, loads}
use Rattle.relay.specs.Route.{Routing, routes}
use Rattle.relay.specs.declared.Table.{Table}

-- what loading answers, and the table
pub loaded_determined : {a b : Result (Unit {0}) Refusal} {t u : Table} {x : Loaded} → loads a t ≡ x → loads b u ≡ x → (a ≡ b) × (t ≡ u)
loaded_determined {a} {b} e f =
    let same = e ∙ sym f in
    (same_refusal a b (ap (λ (l : Loaded). l.refusal) same), ap (λ (l : Loaded). l.table) same)

-- what routing answers
same_routed : (a b : Result (Option ℕ) Refused) (p q : List ℕ) → routes a p ≡ routes b q → a ≡ b
unfolding routes
same_routed (Err r) (Err s) p q e = ap Err (same_refused r s (ap (λ (x : Routing). x.refusal) e) (ap (λ (x : Routing). x.damage) e))
same_routed (Err r) (Ok None) p q e = absurd (refused_not_0 r.refusal (ap (λ (x : Routing). x.refusal) e))
same_routed (Err r) (Ok (Some n)) p q e = absurd (refused_not_0 r.refusal (ap (λ (x : Routing). x.refusal) e))
same_routed (Ok None) (Err s) p q e = absurd (refused_not_0 s.refusal (sym (ap (λ (x : Routing). x.refusal) e)))
same_routed (Ok (Some m)) (Err s) p q e = absurd (refused_not_0 s.refusal (sym (ap (λ (x : Routing). x.refusal) e)))
same_routed (Ok None) (Ok None) p q e = refl
same_routed (Ok None) (Ok (Some n)) p q e = absurd (let z : ◌≡◌ {A = ℕ} 1 2 = ap (λ (x : Routing). x.outcome) e in omega arith)
same_routed (Ok (Some m)) (Ok None) p q e = absurd (let z : ◌≡◌ {A = ℕ} 2 1 = ap (λ (x : Routing). x.outcome) e in omega arith)
same_routed (Ok (Some m)) (Ok (Some n)) p q e = ap (λ (x : Routing). Ok (Some x.count)) e

-- an answer says which octets it goes with
its_output : (a : Result (Option ℕ) Refused) (output : List ℕ) → (routes a output).output ≡ output
unfolding routes
its_output (Err r) output = refl
its_output (Ok None) output = refl
its_output (Ok (Some n)) output = refl

-- the answer, and the octets lent
pub routed_determined : {a b : Result (Option ℕ) Refused} {p q : List ℕ} {x : Routing} → routes a p ≡ x → routes b q ≡ x → (a ≡ b) × (p ≡ q)
routed_determined {a} {b} {p} {q} e f =
    let same = e ∙ sym f in
    (same_routed a b p q same, sym (its_output a p) ∙ ap (λ (r : Routing). r.output) same ∙ its_output b q)
