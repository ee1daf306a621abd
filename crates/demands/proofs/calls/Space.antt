-- The promises of `space`.
-- Assumes nothing.
use Prim.Native.Nat.{ℕ}
use mathlib.Core.Path.{◌≡◌, refl, sym, ap, ◌∙◌}
use mathlib.Core.List.{List}
use lib.ListN.{length}
use lib.Dec.{eqb}
use borrow.Author.Tests.{eqb-true}
use Rattle.std.specs.Prelude.{Result, Ok}
use Rattle.octets.specs.Basics.{pick, number_at, octets, over, first}
use Rattle.octets.specs.declared.refusals.Refusal.{Refusal}
use Rattle.octets.proofs.ByNumber.{same_refusal}
use Rattle.octets.proofs.Tests.{test}
use Rattle.space.specs.Space.{space_fields, space_word, space_read_rows, space_refused, space_reading, space_reads, space_rows, SpaceWriting, space_writing, space_writes}
use Rattle.space.proofs.Determined.{space_determined}
use Rattle.demands.specs.Promises.{Left}
use Rattle.demands.specs.calls.Space.{OfSpace}
use Rattle.demands.proofs.Promised.{promised, left_same}

-- what is written with its refusal, as a choice of both
writing_by_row : (n : ℕ) (new old : List ℕ)
    → ◌≡◌ {A = SpaceWriting} (record { refusal = n; output = pick (eqb n 0) new old }) (pick (eqb n 0) (record { refusal = 0; output = new }) (record { refusal = n; output = old }))
writing_by_row n new old =
    test (eqb n 0) (λ t. rw t (ap (λ (m : ℕ). record { refusal = m; output = new }) (eqb-true n 0 t))) (λ t. rw t refl)

pub of_space : OfSpace
unfolding space_reading space_reads space_writing space_writes
of_space = record {
  read_space = λ κs os-lent.
      let os : List ℕ = os-lent.now in
      promised space_reads (λ a. a.refusal) (space_read_rows os) (space_reads (Ok (space_fields (number_at 6 0 os))))
      space_refused refl refl (λ n. refl)
      (record { free = tt; gives = λ o m. m; one = λ o o' p q. space_determined p q });
  write_space = λ κs h out-lent.
      let out : List ℕ = out-lent.now in
      promised (λ (o : Left (Result (Unit {0}) Refusal)). space_writes o.answer o.lent) (λ a. a.refusal) (space_rows h (length out))
      (record { refusal = 0; output = over out 0 (octets 6 (space_word h)) }) (λ n. record { refusal = n; output = out })
      (writing_by_row (first (space_rows h (length out))) (over out 0 (octets 6 (space_word h))) out) refl (λ n. refl)
      (record {
        free = tt;
        gives = λ o m. m;
        one = λ o o' p q.
            let same : space_writes o.answer o.lent ≡ space_writes o'.answer o'.lent = p ∙ sym q in
            left_same o o' (same_refusal o.answer o'.answer (ap (λ (a : SpaceWriting). a.refusal) same)) (ap (λ (a : SpaceWriting). a.output) same);
      });
}
