-- A test that antt computes at every number below a bound, and what it says at each.
-- Assumes nothing.
use mathlib.Core.Path.{◌≡◌, sym, subst}
use mathlib.Core.Bool.{Bool, true}
use Prim.Native.Nat.{ℕ, zero, suc, ◌<◌}
use native.Mathlib.Omega.{arith}
use lib.Dec.{eqb}
use borrow.Author.Tests.{eqb-true, eqb-false}
use Rattle.octets.specs.Basics.{and}
use Rattle.octets.proofs.Choices.{and_true}
use Rattle.octets.proofs.Tests.{test}

-- the test f passes at each number below n
abbrev pub below : ℕ → (ℕ → Bool) → Bool
below zero f = true
below (suc n) f = and (f n) (below n f)

pub at : (n : ℕ) (f : ℕ → Bool) → below n f ≡ true → (k : ℕ) → k < n → f k ≡ true
at zero f t k h = absurd (omega arith)
at (suc n) f t k h =
    test (eqb k n) (λ e. subst (λ (m : ℕ). f m ≡ true) (sym (eqb-true k n e)) (and_true (f n) (below n f) t).0)
    (λ e. let ne : k ≡ n → ⊥ = eqb-false k n e in
    at n f (and_true (f n) (below n f) t).1 k (omega arith))

-- the same of two numbers, and of three
pub at2 : (n m : ℕ) (f : ℕ → ℕ → Bool) → below n (λ i. below m (f i)) ≡ true → (i j : ℕ) → i < n → j < m → f i j ≡ true
at2 n m f t i j h k = at m (f i) (at n (λ i. below m (f i)) t i h) j k

pub at3 : (n m l : ℕ) (f : ℕ → ℕ → ℕ → Bool) → below n (λ i. below m (λ j. below l (f i j))) ≡ true
    → (i j k : ℕ) → i < n → j < m → k < l → f i j k ≡ true
at3 n m l f t i j k h g e = at2 m l (f i) (at n (λ i. below m (λ j. below l (f i j))) t i h) j k g e
