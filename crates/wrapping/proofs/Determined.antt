-- The answer in numbers tells the answers apart: two outcomes that meet the promise are equal.
-- Assumes nothing.
use mathlib.Core.Path.{◌≡◌, sym, ap, ◌∙◌}
use mathlib.Core.List.{List}
use Prim.Native.Nat.{ℕ}
use Rattle.std.specs.Prelude.{Result, Ok, Err}
use Rattle.octets.specs.declared.refusals.Refusal.{Refusal}
use Rattle.octets.proofs.ByNumber.{same_number, refused_not_0}
use Rattle.wrapping.specs.Wrap.{Wrapping, wraps}

-- the answer, and the octets lent
same_wrapped : (a b : Result ℕ Refusal) {p q : List ℕ} → wraps a p ≡ wraps b q → (a ≡ b) × (p ≡ q)
unfolding wraps
same_wrapped (Ok m) (Ok n) e = (ap Ok (ap (λ (w : Wrapping). w.total) e), ap (λ (w : Wrapping). w.output) e)
same_wrapped (Ok m) (Err r) e = absurd (refused_not_0 r (sym (ap (λ (w : Wrapping). w.refusal) e)))
same_wrapped (Err r) (Ok n) e = absurd (refused_not_0 r (ap (λ (w : Wrapping). w.refusal) e))
same_wrapped (Err r) (Err s) e = (ap Err (same_number r s (ap (λ (w : Wrapping). w.refusal) e)), ap (λ (w : Wrapping). w.output) e)

pub wrapped_determined : {a b : Result ℕ Refusal} {p q : List ℕ} {x : Wrapping} → wraps a p ≡ x → wraps b q ≡ x → (a ≡ b) × (p ≡ q)
wrapped_determined {a} {b} e f = same_wrapped a b (e ∙ sym f)
