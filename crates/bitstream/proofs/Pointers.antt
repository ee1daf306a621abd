-- The pointer of n bits, and the bits that a pointer says: each is read from the other.
-- Assumes nothing.
use mathlib.Core.Path.{◌≡◌, refl, sym, ap, subst, ◌∙◌}
use mathlib.Core.Bool.{Bool, false}
use Prim.Native.Nat.{ℕ, ◌+◌, ◌-◌, ◌^◌, ◌≤◌, ◌<◌}
use native.Mathlib.Omega.{arith}
use lib.Dec.{leb}
use borrow.Author.Tests.{le-leb, lt-leb, leb-false, eq-eqb, ne_eqb}
use Rattle.octets.specs.Basics.{and}
use Rattle.octets.proofs.Choices.{split}
use Rattle.frames.specs.BitFrame.{bit_unused, most_bits, fill_only, all_valid}
use Rattle.frames.specs.declared.bits.BitSettings.{BitSettings}
use Rattle.frames.proofs.bits.Settled.{BitsSettled}
use Rattle.bitstream.specs.Bitstream.{pointer_for, valid_bits}

-- n bits and their pointer
data Pointed (s : BitSettings) : ℕ → ℕ → Type 0 where
  none : Pointed s 0 fill_only
  all : Pointed s (most_bits s) all_valid
  some : (p : ℕ) → p + 1 < most_bits s → Pointed s (p + 1) p

module _ (s : BitSettings) (range : BitsSettled s) where
  valid_of : {n p : ℕ} → Pointed s n p → valid_bits s p ≡ n
  unfolding valid_bits
  valid_of none = refl
  valid_of all = refl
  valid_of (some p h) =
      let most = range.width_most in
      rw (ne_eqb p fill_only (λ e. omega arith), ne_eqb p all_valid (λ e. omega arith)) refl

  pointer_of : {n p : ℕ} → Pointed s n p → pointer_for s n ≡ p
  unfolding pointer_for
  pointer_of none = refl
  pointer_of all =
      let least = range.width_least in
      rw (ne_eqb (most_bits s) 0 (λ e. omega arith), eq-eqb (most_bits s) (most_bits s) refl) refl
  pointer_of (some p h) =
      rw (ne_eqb (p + 1) 0 (λ e. omega arith), ne_eqb (p + 1) (most_bits s) (λ e. omega arith)) (omega arith)

  used_of : {n p : ℕ} → Pointed s n p → bit_unused s p ≡ false
  unfolding bit_unused
  used_of none = let most = range.width_most in rw (le-leb (most_bits s - 1) fill_only (omega arith)) refl
  used_of all = let most = range.width_most in rw (le-leb (most_bits s - 1) all_valid (omega arith)) refl
  used_of (some p h) = rw (lt-leb (most_bits s - 1) p (omega arith)) refl

  most_of : {n p : ℕ} → Pointed s n p → n ≤ most_bits s
  most_of none = omega arith
  most_of all = omega arith
  most_of (some p h) = omega arith

  -- every number of bits that the zone has room for has a pointer
  pointed_for : (n : ℕ) → n ≤ most_bits s → Pointed s n (pointer_for s n)
  pointed_for n h =
      split n 0 (λ e. at 0 (omega arith) none)
      (λ few. split (most_bits s) n (λ e. at (most_bits s) (omega arith) all) (λ e. at (n - 1 + 1) (omega arith) (some (n - 1) (omega arith))))
    where
      at : (m : ℕ) {p : ℕ} → m ≡ n → Pointed s m p → Pointed s n (pointer_for s n)
      at m e v = subst (λ (k : ℕ). Pointed s k (pointer_for s k)) e (subst (Pointed s m) (sym (pointer_of v)) v)

  -- every pointer that is used has a number of bits
  pointed_by : (p : ℕ) → p < 2 ^ 14 → bit_unused s p ≡ false → Pointed s (valid_bits s p) p
  unfolding bit_unused
  pointed_by p h used =
      split (most_bits s - 1) p
      (λ past. let last : 16381 < p = leb-false p 16381 (sym (ap (λ (t : Bool). and t (leb p 16381)) (le-leb (most_bits s - 1) p past)) ∙ used) in
      split p fill_only (λ e. at fill_only (omega arith) none) (λ e. at all_valid (omega arith) all))
      (λ e. at p refl (some p (omega arith)))
    where
      at : (q : ℕ) {n : ℕ} → q ≡ p → Pointed s n q → Pointed s (valid_bits s p) p
      at q e v = subst (λ (k : ℕ). Pointed s (valid_bits s k) k) e (subst (λ (k : ℕ). Pointed s k q) (sym (valid_of v)) v)

  -- the bits of a pointer that was written, and the pointer of bits that were read
  pub valid_pointer : (n : ℕ) → n ≤ most_bits s → valid_bits s (pointer_for s n) ≡ n
  valid_pointer n h = valid_of (pointed_for n h)

  pub pointer_used : (n : ℕ) → n ≤ most_bits s → bit_unused s (pointer_for s n) ≡ false
  pointer_used n h = used_of (pointed_for n h)

  pub pointer_again : (p : ℕ) → p < 2 ^ 14 → bit_unused s p ≡ false → pointer_for s (valid_bits s p) ≡ p
  pointer_again p h used = pointer_of (pointed_by p h used)

  pub valid_most : (p : ℕ) → p < 2 ^ 14 → bit_unused s p ≡ false → valid_bits s p ≤ most_bits s
  valid_most p h used = most_of (pointed_by p h used)
