-- What the extractor's answer to entering tells the judge.
-- Assumes nothing.
use mathlib.Core.Path.{◌≡◌, ap}
use mathlib.Core.List.{List}
use mathlib.Core.Bool.{false}
use Prim.Native.Nat.{ℕ}
use native.Mathlib.Omega.{arith}
use lib.Dec.{eqb}
use borrow.Author.Tests.{eqb-true}
use Rattle.octets.specs.Basics.{first}
use Rattle.octets.specs.Refusals.{number_of}
use Rattle.octets.specs.declared.refusals.Refusal.{Refusal}
use Rattle.octets.proofs.Tests.{test}
use Rattle.frames.specs.declared.Settings.{Settings}
use Rattle.extractor.specs.Extract.{take_in}
use Rattle.extractor.specs.Records.{enter_rows, stands_for, enter}
use Rattle.extractor.specs.Answers.{EnterSaid, reason_number, entered_numbers, entering_says, refused_enter, enter_answer}
use Rattle.extractor.specs.declared.Extractor.{Extractor}
use Rattle.extractor.specs.declared.Entering.{Entering}

module _ (s : Settings) (x : Extractor) (store f : List ℕ) where
  -- a refusal is a row of the table
  pub refused_row : (k : Refusal) → refused_enter x (number_of k) ≡ enter_answer s x store f → eqb (first (enter_rows s x store f)) 0 ≡ false
  unfolding enter_answer
  refused_row k told =
      test (eqb (first (enter_rows s x store f)) 0)
      (λ t. let outcome : ◌≡◌ {A = ℕ} 0 1 = rw t at (ap (λ (a : EnterSaid). a.answer.outcome) told) in absurd (omega arith))
      (λ t. t)

  -- what is said of a frame that is entered
  pub record TakenAs (r : Entering) : Type 0 where
    pub accepted : first (enter_rows s x store f) ≡ 0
    pub lost : r.entry.lost ≡ (take_in s (stands_for store x) f).lost
    pub reason : reason_number r.entry.reason ≡ (take_in s (stands_for store x) f).reason
    pub next : r.next ≡ enter s (stands_for store x) f

  pub taken_as : (r : Entering) → entering_says r ≡ enter_answer s x store f → TakenAs r
  unfolding enter_answer entered_numbers
  taken_as r told =
      test (eqb (first (enter_rows s x store f)) 0)
      (λ t. record {
        accepted = eqb-true (first (enter_rows s x store f)) 0 t;
        lost = rw t at (ap (λ (a : EnterSaid). a.answer.lost) told);
        reason = rw t at (ap (λ (a : EnterSaid). a.answer.reason) told);
        next = rw t at (ap (λ (a : EnterSaid). a.next) told);
      })
      (λ t. let outcome : ◌≡◌ {A = ℕ} 1 0 = rw t at (ap (λ (a : EnterSaid). a.answer.outcome) told) in absurd (omega arith))
