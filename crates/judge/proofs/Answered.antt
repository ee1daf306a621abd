-- A call that its rows refuse or that is answered.
-- Assumes nothing.
use mathlib.Core.Path.{◌≡◌, refl, sym}
use mathlib.Core.List.{List}
use mathlib.Core.Bool.{true}
use Prim.Native.Nat.{ℕ}
use lib.ListN.{length, drop}
use lib.Dec.{eqb}
use borrow.Author.Tests.{eqb-true, eqb-false, ne_eqb}
use Rattle.octets.specs.Basics.{first, Row}
use Rattle.octets.proofs.Tests.{test}
use Rattle.frames.specs.declared.Settings.{Settings}
use Rattle.judge.specs.Calls.{close_rows, close_refused, close_call, judge_refused, judge_reachable, Judging, judging, JudgeSaid, judge_answers, unless_refused, Calling}
use Rattle.judge.specs.Statements.{Keeps}
use Rattle.judge.specs.declared.Judge.{Judge}

module _ (rows : List Row) (store : List ℕ) (j : Judge) (k : Judging) where
  -- what is so of both is so of the call
  pub either : (P : JudgeSaid → Type 0) → (first rows ≡ 0 → P (judge_answers 0 k))
      → ((first rows ≡ 0 → ⊥) → P (judge_answers (first rows) (judging j store))) → P (unless_refused rows store j k)
  either P answered refused =
      test (eqb (first rows) 0)
      (λ t. rw t (answered (eqb-true (first rows) 0 t)))
      (λ t. rw t (refused (eqb-false (first rows) 0 t)))

  -- its refusal is that of the first row that holds
  pub numbered : (unless_refused rows store j k).refusal ≡ first rows
  numbered = either (λ (a : JudgeSaid). a.refusal ≡ first rows) (λ e. sym e) (λ h. refl)

-- what a refused call says
pub close_refuses : (s : Settings) (store : List ℕ) (j : Judge) {n : ℕ} → n ≡ first (close_rows s store j) → (n ≡ 0 → ⊥) → close_refused n ≡ close_call s store j
unfolding close_call
close_refuses s store j e some = rw (← e, ne_eqb _ 0 some) refl

pub refuses : (rows : List Row) (store : List ℕ) (j : Judge) (k : Judging) {n : ℕ} → n ≡ first rows → (n ≡ 0 → ⊥) → judge_refused j store n ≡ unless_refused rows store j k
refuses rows store j k e some = rw (← e, ne_eqb _ 0 some) refl

pub not_refused : (rows : List Row) (store : List ℕ) (j : Judge) {k l : Judging} → first rows ≡ 0 → l ≡ k → judge_answers 0 l ≡ unless_refused rows store j k
not_refused rows store j none e = rw (none, e) refl

-- what a call leaves that is not refused: a record that the rules can reach, over a store of the same length that is written below the
-- limit alone
pub record Stays (s : Settings) (store : List ℕ) (k : Judging) : Type 0 where
  pub reach : judge_reachable s k.store k.next ≡ true
  pub same_room : length k.store ≡ length store
  pub beyond : drop s.limit k.store ≡ drop s.limit store

-- so a call keeps to the test that leaves this, or that its rows refuse
pub keeps_by : (rows : Settings → List ℕ → Judge → List ℕ → List Row) (leaves : Settings → List ℕ → Judge → List ℕ → Judging) (call : Calling)
    → ((s : Settings) (store : List ℕ) (j : Judge) (os : List ℕ) → unless_refused (rows s store j os) store j (leaves s store j os) ≡ call s store j os)
    → ((s : Settings) (store : List ℕ) (j : Judge) (os : List ℕ) → first (rows s store j os) ≡ 0 → Stays s store (leaves s store j os))
    → Keeps call
keeps_by rows leaves call is stays =
    record {
      refused = λ s store j os.
          so s store j os (λ a. (a.refusal ≡ 0 → ⊥) → a ≡ judge_answers a.refusal (judging j store)) (λ e h. absurd (h refl)) (λ h _. refl);
      reached = λ s store j os.
          so s store j os (λ a. a.refusal ≡ 0 → judge_reachable s a.store a.next ≡ true) (λ e _. (stays s store j os e).reach) (λ h e. absurd (h e));
      length_kept = λ s store j os.
          so s store j os (λ a. length a.store ≡ length store) (λ e. (stays s store j os e).same_room) (λ h. refl);
      far_kept = λ s store j os.
          so s store j os (λ a. drop s.limit a.store ≡ drop s.limit store) (λ e. (stays s store j os e).beyond) (λ h. refl);
    }
  where
    so : (s : Settings) (store : List ℕ) (j : Judge) (os : List ℕ) (P : JudgeSaid → Type 0)
        → (first (rows s store j os) ≡ 0 → P (judge_answers 0 (leaves s store j os)))
        → ((first (rows s store j os) ≡ 0 → ⊥) → P (judge_answers (first (rows s store j os)) (judging j store))) → P (call s store j os)
    so s store j os P answered refused = rw (← is s store j os) (either (rows s store j os) store j (leaves s store j os) P answered refused)
