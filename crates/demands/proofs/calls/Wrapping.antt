-- The promises of `wrapping`.
-- Assumes nothing.
use Prim.Native.Nat.{ℕ}
use mathlib.Core.Path.{refl}
use mathlib.Core.List.{List}
use mathlib.Core.Bool.{true, false}
use lib.ListN.{length}
use Rattle.std.specs.Prelude.{Result}
use Rattle.octets.specs.Basics.{over}
use Rattle.octets.specs.declared.refusals.Refusal.{Refusal}
use Rattle.wrapping.specs.Wrap.{wrapped, wrapped_total, wrapping, wraps}
use Rattle.wrapping.proofs.Determined.{wrapped_determined}
use Rattle.demands.specs.Promises.{Left}
use Rattle.demands.specs.calls.Wrapping.{OfWrapping}
use Rattle.demands.proofs.Promised.{promised, left_same, writes}

pub of_wrapping : OfWrapping
unfolding wrapping
of_wrapping = record {
  wrap = λ κs limit protocol extension unit-lent out-lent.
      let unit : List ℕ = unit-lent.now in
      let out : List ℕ = out-lent.now in
      promised (λ (o : Left (Result ℕ Refusal)). wraps o.answer o.lent) (λ a. a.refusal) _
      (record { accepted = true; refusal = 0; damage = 0; total = wrapped_total protocol (length unit); output = over out 0 (wrapped protocol extension unit) })
      (λ n. record { accepted = false; refusal = n; damage = 0; total = 0; output = out }) refl refl (λ n. refl)
      (record {
        free = tt;
        gives = λ o m. m;
        one = λ o o' p q.
            let same = wrapped_determined {a = o.answer} {b = o'.answer} {p = o.lent} {q = o'.lent} p q in
            left_same o o' same.0 same.1;
      });
  write_idle = λ κs out at r fill. writes _ _ _;
}
