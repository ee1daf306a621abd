-- The promises of `extractor`.
-- Assumes nothing.
use Prim.Native.Nat.{ℕ, ◌+◌}
use mathlib.Core.Path.{◌≡◌, refl, sym, ◌∙◌}
use mathlib.Core.List.{List, ◌++◌}
use lib.ListN.{length, take, drop}
use lib.Dec.{leb, eqb}
use Rattle.std.specs.Prelude.{Result}
use Rattle.octets.specs.Basics.{first}
use Rattle.octets.specs.declared.refusals.Refusal.{Refusal}
use Rattle.octets.proofs.ByNumber.{same_refusal}
use Rattle.octets.proofs.Tests.{test}
use Rattle.packets.specs.Packet.{Look, more, damaged, whole, look}
use Rattle.frames.specs.Frame.{zone_of}
use Rattle.frames.specs.declared.Settings.{Settings}
use Rattle.extractor.specs.Records.{enter_rows, step_rows, Stepped, steps_to, step_look, handed_over, step, step_call}
use Rattle.extractor.specs.Answers.{enter_says, entered_as, enter_answer, found_numbers, said, step_says, step_answer}
use Rattle.extractor.specs.Calls.{Finds, spends_to, spend_says}
use Rattle.extractor.specs.Calls as calls
use Rattle.extractor.specs.declared.Extractor.{Extractor}
use Rattle.extractor.specs.declared.Extractor.TheVariants.{Fresh, Astray, InStep, Walking, Leaving}
use Rattle.extractor.specs.Found.{Refused}
use Rattle.extractor.specs.declared.Move.{Move}
use Rattle.extractor.proofs.Determined.{enter_determined, step_determined, spend_determined}
use Rattle.extractor.proofs.Spends.{spends_by_rows}
use Rattle.extractor.proofs.Theorems.{keeps_to_the_test, reaches_all, exceptions}
use Rattle.demands.specs.Promises.{Left}
use Rattle.demands.specs.calls.Extractor.{OfExtractor}
use Rattle.demands.proofs.Promised.{promised, through, left_same, exactly}

-- what a step that is not refused finds is no refusal
abbrev Unrefused : List ℕ → Stepped → Type 0
Unrefused f w = (said f w).answer.refusal ≡ 0

looked : (s : Settings) (f store : List ℕ) (last h at : ℕ) (rest : List ℕ) (k : Look) → Unrefused f (step_look s store last h at rest k)
unfolding step_look handed_over found_numbers
looked s f store last h at rest more = refl
looked s f store last h at rest (damaged d) = refl
looked s f store last h at rest (whole l) =
    test (leb l (h + length rest)) (λ t. test (eqb h 0) (λ u. rw (t, u) refl) (λ u. rw (t, u) refl)) (λ t. rw t refl)

pub unrefused : (s : Settings) (f store : List ℕ) (x : Extractor) → Unrefused f (step s f store x)
unfolding step found_numbers
unrefused s f store Fresh = refl
unrefused s f store (Astray last) = refl
unrefused s f store (InStep last h) = refl
unrefused s f store (Walking last h at) =
    let rest : List ℕ = drop at (zone_of s f) in
    looked s f store last h at rest (look s.limit (take h store ++ rest))
unrefused s f store (Leaving last) = refl

pub of_extractor : OfExtractor
unfolding enter_answer step_answer step_call found_numbers
of_extractor = record {
  reason_number = λ r. exactly;
  enter = λ κs s x store f.
      promised (enter_says x) (λ a. a.answer.refusal) (enter_rows s x store.now f.now) (entered_as s x store.now f.now) _ refl refl (λ n. refl)
      (record { free = tt; gives = λ o m. m; one = λ o o' p q. enter_determined x p q });
  step = λ κs s x lent-store lent-frame.
      let f : List ℕ = lent-frame.now in
      let store : List ℕ = lent-store.now in
      promised (λ (o : Left (Result Move Refusal)). step_says x o.answer f o.lent) (λ a. a.answer.refusal) (step_rows s x store f) (said f (step s f store x)) _
      (through (said f) (eqb (first (step_rows s x store f)) 0) (step s f store x) (steps_to (Refused (first (step_rows s x store f))) x store))
      (unrefused s f store x) (λ n. refl)
      (record {
        free = tt;
        gives = λ o m. m;
        one = λ o o' p q.
            let same = step_determined x f {a = o.answer} {b = o'.answer} {p = o.lent} {q = o'.lent} p q in
            left_same o o' same.0 same.1;
      });
  spend = λ κs s x lent-store lent-frame.
      let f : List ℕ = lent-frame.now in
      let store : List ℕ = lent-store.now in
      let t : Finds = calls.through s f x store in
      promised (λ (o : Left (Result Extractor Refusal)). spend_says x o.answer o.lent) (λ a. a.refusal) (step_rows s x store f) (spends_to 0 t.next t.store)
      (λ n. spends_to n x store) (spends_by_rows s f x store) refl (λ n. refl)
      (record {
        free = tt;
        gives = λ o m. m;
        one = λ o o' p q.
            let same = spend_determined x {a = o.answer} {b = o'.answer} {p = o.lent} {q = o'.lent} p q in
            left_same o o' same.0 same.1;
      });
  record_refusal = λ κs s x store. record { free = tt; gives = λ r m. m; one = λ r r' p q. same_refusal r r' (p ∙ sym q) };
  show = λ κs f store found part. exactly;
  keeps = keeps_to_the_test;
  exact = reaches_all;
  exceptions = exceptions;
}
