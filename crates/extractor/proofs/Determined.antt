-- The answers in numbers tell the answers apart: two outcomes that meet a promise are equal.
-- Assumes nothing.
use mathlib.Core.Path.{◌≡◌, refl, sym, ap, ◌∙◌}
use mathlib.Core.List.{List}
use mathlib.Core.Bool.{true, false}
use Prim.Native.Nat.{ℕ}
use lib.Dec.{eqb}
use Rattle.std.specs.Prelude.{Option, None, Some, Result, Ok, Err}
use Rattle.octets.specs.Basics.{pick}
use Rattle.octets.specs.declared.refusals.Refusal.{Refusal}
use Rattle.octets.proofs.ByNumber.{same_number, refused_not_0}
use Rattle.packets.proofs.Determined.{damage_back, damage_undo}
use Rattle.extractor.specs.Answers.{EnterNumbers, EnterSaid, reason_number, reason_damage, entered_numbers, enter_says, StepNumbers, StepSaid, found_numbers, as_found, step_says}
use Rattle.extractor.specs.Calls.{SpendSaid, spend_says}
use Rattle.extractor.specs.declared.Extractor.{Extractor}
use Rattle.extractor.specs.declared.Reason.{Reason}
use Rattle.extractor.specs.declared.Entry.{Entry}
use Rattle.extractor.specs.declared.Entering.{Entering}
use Rattle.extractor.specs.declared.Found.{Found}
use Rattle.extractor.specs.declared.Move.{Move}

-- ---- entering

reason_back : ℕ → ℕ → Option Reason
reason_back reason damage =
    pick (eqb reason 0) None
    (pick (eqb reason 1) (Some Reason.FramesMissing)
    (pick (eqb reason 2) (Some Reason.PointerDiffers) (Some (Reason.HeaderDamaged (damage_back damage)))))

reason_undo : (r : Option Reason) → reason_back (reason_number r) (reason_damage r) ≡ r
unfolding reason_back
reason_undo None = refl
reason_undo (Some Reason.FramesMissing) = refl
reason_undo (Some Reason.PointerDiffers) = refl
reason_undo (Some (Reason.HeaderDamaged d)) = ap (λ d. Some (Reason.HeaderDamaged d)) (damage_undo d)

entry_back : EnterNumbers → Entry
entry_back n = record { count = n.count; replay = n.replay; lost = n.lost; dropped = n.dropped; reason = reason_back n.reason n.damage }

entry_undo : (e : Entry) → entry_back (entered_numbers e) ≡ e
unfolding entry_back entered_numbers
entry_undo e = ap (λ (r : Option Reason). record { count = e.count; replay = e.replay; lost = e.lost; dropped = e.dropped; reason = r }) (reason_undo e.reason)

entering_back : EnterSaid → Entering
entering_back a = record { entry = entry_back a.answer; next = a.next }

same_entering : (y : Extractor) (a b : Result Entering Refusal) → enter_says y a ≡ enter_says y b → a ≡ b
unfolding entered_numbers entering_back
same_entering y (Ok a) (Ok b) e =
    let undo : (r : Entering) → entering_back (enter_says y (Ok r)) ≡ r = λ r. ap (λ (e : Entry). record { entry = e; next = r.next }) (entry_undo r.entry) in
    ap Ok (sym (undo a) ∙ ap entering_back e ∙ undo b)
same_entering y (Ok a) (Err r) e = absurd (refused_not_0 r (sym (ap (λ (n : EnterSaid). n.answer.refusal) e)))
same_entering y (Err r) (Ok b) e = absurd (refused_not_0 r (ap (λ (n : EnterSaid). n.answer.refusal) e))
same_entering y (Err r) (Err q) e = ap Err (same_number r q (ap (λ (n : EnterSaid). n.answer.refusal) e))

pub enter_determined : (y : Extractor) {a b : Result Entering Refusal} {x : EnterSaid} → enter_says y a ≡ x → enter_says y b ≡ x → a ≡ b
enter_determined y {a} {b} d e = same_entering y a b (d ∙ sym e)

-- ---- a step

found_back : StepNumbers → Found
found_back n =
    pick (eqb n.outcome 3) (Found.Damaged (damage_back n.damage))
    (pick (eqb n.outcome 4) Found.Spent
    (pick (eqb n.place 1)
    (Found.InFrame n.start n.size (eqb n.outcome 2))
    (Found.InStore n.size (eqb n.outcome 2))))

found_undo : (f store : List ℕ) (a : Found) → found_back (found_numbers f store (as_found a)) ≡ a
unfolding found_back found_numbers
found_undo f store (Found.InFrame start size true) = refl
found_undo f store (Found.InFrame start size false) = refl
found_undo f store (Found.InStore size true) = refl
found_undo f store (Found.InStore size false) = refl
found_undo f store (Found.Damaged d) = ap Found.Damaged (damage_undo d)
found_undo f store Found.Spent = refl

found_taken : (f store : List ℕ) (a : Found) → (found_numbers f store (as_found a)).refusal ≡ 0
unfolding found_numbers
found_taken f store (Found.InFrame start size idle) = refl
found_taken f store (Found.InStore size idle) = refl
found_taken f store (Found.Damaged d) = refl
found_taken f store Found.Spent = refl

move_back : StepSaid → Move
move_back a = record { found = found_back a.answer; next = a.next }

same_move : (y : Extractor) (f : List ℕ) (a b : Result Move Refusal) (p q : List ℕ) → step_says y a f p ≡ step_says y b f q → a ≡ b
unfolding found_numbers move_back
same_move y f (Ok a) (Ok b) p q e =
    let undo : (m : Move) (st : List ℕ) → move_back (step_says y (Ok m) f st) ≡ m = λ m st. ap (λ (a : Found). record { found = a; next = m.next }) (found_undo f st m.found) in
    ap Ok (sym (undo a p) ∙ ap move_back e ∙ undo b q)
same_move y f (Ok a) (Err r) p q e = absurd (refused_not_0 r (sym (ap (λ (n : StepSaid). n.answer.refusal) e) ∙ found_taken f p a.found))
same_move y f (Err r) (Ok b) p q e = absurd (refused_not_0 r (ap (λ (n : StepSaid). n.answer.refusal) e ∙ found_taken f q b.found))
same_move y f (Err r) (Err s) p q e = ap Err (same_number r s (ap (λ (n : StepSaid). n.answer.refusal) e))

same_store : (y : Extractor) (f : List ℕ) (a b : Result Move Refusal) (p q : List ℕ) → step_says y a f p ≡ step_says y b f q → p ≡ q
same_store y f (Ok a) (Ok b) p q e = ap (λ (n : StepSaid). n.store) e
same_store y f (Ok a) (Err r) p q e = ap (λ (n : StepSaid). n.store) e
same_store y f (Err r) (Ok b) p q e = ap (λ (n : StepSaid). n.store) e
same_store y f (Err r) (Err s) p q e = ap (λ (n : StepSaid). n.store) e

-- the answer, the record and every octet of the store
pub step_determined : (y : Extractor) (f : List ℕ) {a b : Result Move Refusal} {p q : List ℕ} {x : StepSaid} → step_says y a f p ≡ x → step_says y b f q ≡ x
    → (a ≡ b) × (p ≡ q)
step_determined y f {a} {b} {p} {q} d e = (same_move y f a b p q (d ∙ sym e), same_store y f a b p q (d ∙ sym e))

-- ---- spending

same_spending : (y : Extractor) (a b : Result Extractor Refusal) (p q : List ℕ) → spend_says y a p ≡ spend_says y b q → (a ≡ b) × (p ≡ q)
same_spending y (Ok a) (Ok b) p q e = (ap Ok (ap (λ (w : SpendSaid). w.next) e), ap (λ (w : SpendSaid). w.store) e)
same_spending y (Ok a) (Err r) p q e = absurd (refused_not_0 r (sym (ap (λ (w : SpendSaid). w.refusal) e)))
same_spending y (Err r) (Ok b) p q e = absurd (refused_not_0 r (ap (λ (w : SpendSaid). w.refusal) e))
same_spending y (Err r) (Err s) p q e = (ap Err (same_number r s (ap (λ (w : SpendSaid). w.refusal) e)), ap (λ (w : SpendSaid). w.store) e)

pub spend_determined : (y : Extractor) {a b : Result Extractor Refusal} {p q : List ℕ} {x : SpendSaid} → spend_says y a p ≡ x → spend_says y b q ≡ x → (a ≡ b) × (p ≡ q)
spend_determined y {a} {b} {p} {q} d e = same_spending y a b p q (d ∙ sym e)
