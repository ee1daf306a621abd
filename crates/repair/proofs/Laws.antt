-- The laws of the field of sixteen elements, each computed once over all elements; products take the lowest four bits, so the laws hold
-- of all numbers.
-- Assumes nothing.
use mathlib.Core.Path.{◌≡◌, refl, sym, ap, ap₂, ◌∙◌, subst, subst⁻¹}
use mathlib.Core.Bool.{Bool, true, false, not}
use Prim.Native.Nat.{ℕ, zero, suc, ◌+◌, ◌*◌, ◌/◌, ◌%◌, ◌<◌}
use native.Mathlib.Nat.{mod-eq_of_lt, zero-add, suc-add, zero-mul, suc-mul, div-add-mod'}
use native.Mathlib.Omega.{arith}
use lib.Dec.{eqb, ltb}
use lib.Bits.{bit_xor, xor_mod, xor_lt, xor_self}
use borrow.Author.Tests.{eqb-true, eqb-false, ltb-true, not-true}
use Rattle.octets.specs.Basics.{and, or}
use Rattle.octets.proofs.Choices.{and_true, apart}
use Rattle.repair.specs.Field.{times_root, power, product_from, product}
use Rattle.octets.proofs.Every.{below, at, at2, at3}
use Rattle.octets.proofs.Sums.{xor_apart}

small : (a : ℕ) → a % 16 < 16
small a = omega arith

pub low : (a b : ℕ) → product (a % 16) (b % 16) ≡ product a b
unfolding product
low a b = ap₂ (product_from 4) (mod-eq_of_lt (small a)) (mod-eq_of_lt (small b))

pub low_l : (a b : ℕ) → product (a % 16) b ≡ product a b
unfolding product
low_l a b = ap (λ (x : ℕ). product_from 4 x (b % 16)) (mod-eq_of_lt (small a))

low_r : (a b : ℕ) → product a (b % 16) ≡ product a b
unfolding product
low_r a b = ap (product_from 4 (a % 16)) (mod-eq_of_lt (small b))

comm_test : below 16 (λ a. below 16 (λ b. eqb (product a b) (product b a))) ≡ true
unfolding product product_from times_root
comm_test = refl

pub product_comm : (a b : ℕ) → product a b ≡ product b a
product_comm a b =
    sym (low a b)
    ∙ eqb-true _ _ (at2 16 16 (λ a b. eqb (product a b) (product b a)) comm_test (a % 16) (b % 16) (small a) (small b))
    ∙ low b a

lt_test : below 16 (λ a. below 16 (λ b. ltb (product a b) 16)) ≡ true
unfolding product product_from times_root
lt_test = refl

pub product_lt : (a b : ℕ) → product a b < 16
product_lt a b =
    subst (λ (x : ℕ). x < 16) (low a b)
    (ltb-true _ _ (at2 16 16 (λ a b. ltb (product a b) 16) lt_test (a % 16) (b % 16) (small a) (small b)))

assoc_test : below 16 (λ a. below 16 (λ b. below 16 (λ c. eqb (product (product a b) c) (product a (product b c))))) ≡ true
unfolding product product_from times_root
assoc_test = refl

pub product_assoc : (a b c : ℕ) → product (product a b) c ≡ product a (product b c)
product_assoc a b c =
    let t : product (product (a % 16) (b % 16)) (c % 16) ≡ product (a % 16) (product (b % 16) (c % 16)) =
    eqb-true _ _
    (at3 16 16 16 (λ a b c. eqb (product (product a b) c) (product a (product b c))) assoc_test (a % 16) (b % 16) (c % 16) (small a) (small b) (small c)) in
    simp (low_l, low_r) at t

spread_test : below 16 (λ a. below 16 (λ b. below 16 (λ c. eqb (product a (bit_xor b c)) (bit_xor (product a b) (product a c))))) ≡ true
unfolding product product_from times_root
spread_test = refl

pub product_xor : (a b c : ℕ) → product a (bit_xor b c) ≡ bit_xor (product a b) (product a c)
product_xor a b c =
    sym (low a (bit_xor b c)) ∙ ap (product (a % 16)) (xor_mod b c 4)
    ∙ eqb-true _ _
    (at3 16 16 16 (λ a b c. eqb (product a (bit_xor b c)) (bit_xor (product a b) (product a c))) spread_test (a % 16) (b % 16) (c % 16) (small a) (small b) (small c))
    ∙ ap₂ bit_xor (low a b) (low a c)

pub xor_product : (a b c : ℕ) → product (bit_xor a b) c ≡ bit_xor (product a c) (product b c)
xor_product a b c = product_comm (bit_xor a b) c ∙ product_xor c a b ∙ ap₂ bit_xor (product_comm c a) (product_comm c b)

pub swap : (a b c : ℕ) → product a (product b c) ≡ product b (product a c)
swap a b c = sym (product_assoc a b c) ∙ ap (λ (x : ℕ). product x c) (product_comm a b) ∙ product_assoc b a c

unit_test : below 16 (λ a. and (eqb (product 1 a) a) (and (eqb (product 0 a) 0) (eqb (times_root a) (product 2 a)))) ≡ true
unfolding product product_from times_root
unit_test = refl

module _ (a : ℕ) where
  unit_at : (product 1 (a % 16) ≡ a % 16) × (product 0 (a % 16) ≡ 0) × (times_root (a % 16) ≡ product 2 (a % 16))
  unit_at =
      let t = at 16 (λ a. and (eqb (product 1 a) a) (and (eqb (product 0 a) 0) (eqb (times_root a) (product 2 a)))) unit_test (a % 16) (small a) in
      let u = and_true (eqb (product 1 (a % 16)) (a % 16)) (and (eqb (product 0 (a % 16)) 0) (eqb (times_root (a % 16)) (product 2 (a % 16)))) t in
      let v = and_true (eqb (product 0 (a % 16)) 0) (eqb (times_root (a % 16)) (product 2 (a % 16))) u.1 in
      (eqb-true _ _ u.0, eqb-true _ _ v.0, eqb-true _ _ v.1)

pub product-zero : (a : ℕ) → product 0 a ≡ 0
product-zero a = sym (low_r 0 a) ∙ (unit_at a).1

pub zero-product : (a : ℕ) → product a 0 ≡ 0
zero-product a = product_comm a 0 ∙ product-zero a

pub product_one : (a : ℕ) → a < 16 → product 1 a ≡ a
product_one a h = sym (low_r 1 a) ∙ (unit_at a).0 ∙ mod-eq_of_lt h

pub root : (a : ℕ) → a < 16 → times_root a ≡ product 2 a
root a h = ap times_root (sym (mod-eq_of_lt h)) ∙ (unit_at a).2 ∙ low_r 2 a

-- no two elements but with 0 have the product 0
cancel_test : below 16 (λ a. below 16 (λ b. or (eqb a 0) (or (eqb b 0) (not (eqb (product a b) 0))))) ≡ true
unfolding product product_from times_root
cancel_test = refl

pub no_factor : (a b : ℕ) → a < 16 → b < 16 → (b ≡ 0 → ⊥) → product a b ≡ 0 → a ≡ 0
no_factor a b ha hb ne e =
    go (eqb a 0) (eqb b 0) (eqb (product a b) 0) refl refl refl
    (at2 16 16 (λ a b. or (eqb a 0) (or (eqb b 0) (not (eqb (product a b) 0)))) cancel_test a b ha hb)
  where
    go : (s t u : Bool) → eqb a 0 ≡ s → eqb b 0 ≡ t → eqb (product a b) 0 ≡ u → or s (or t (not u)) ≡ true → a ≡ 0
    go true t u p q r k = eqb-true a 0 p
    go false true u p q r k = absurd (ne (eqb-true b 0 q))
    go false false true p q r k = apart (cc)
    go false false false p q r k = absurd (eqb-false (product a b) 0 r e)

-- a factor that is not 0 can be taken away
pub cancel : (a b c : ℕ) → a < 16 → b < 16 → c < 16 → (c ≡ 0 → ⊥) → product a c ≡ product b c → a ≡ b
cancel a b c ha hb hc ne e =
    xor_apart a b
    (no_factor (bit_xor a b) c (xor_lt 4 a b ha hb) hc ne
    (xor_product a b c ∙ ap (λ (x : ℕ). bit_xor x (product b c)) e ∙ xor_self (product b c)))

-- ---- powers

pub power_zero : power 0 ≡ 1
unfolding power
power_zero = refl

pub power_lt : (k : ℕ) → power k < 16
unfolding power
power_lt zero = omega arith
power_lt (suc k) = subst⁻¹ (λ (x : ℕ). x < 16) (root (power k) (power_lt k)) (product_lt 2 (power k))

pub power-add : (i j : ℕ) → power (i + j) ≡ product (power i) (power j)
unfolding power
power-add zero j = ap power (zero-add j) ∙ sym (product_one (power j) (power_lt j))
power-add (suc i) j =
    ap power (suc-add i j) ∙ root (power (i + j)) (power_lt (i + j)) ∙ ap (product 2) (power-add i j)
    ∙ sym (product_assoc 2 (power i) (power j)) ∙ ap (λ (x : ℕ). product x (power j)) (sym (root (power i) (power_lt i)))

-- fifteen turns of the root are one
pub round : (n : ℕ) → power (n * 15) ≡ 1
unfolding power times_root
round zero = ap power (zero-mul 15)
round (suc n) = ap power (suc-mul n 15) ∙ power-add (n * 15) 15 ∙ ap (λ (x : ℕ). product x (power 15)) (round n) ∙ product_one (power 15) (power_lt 15)

-- the powers come again after fifteen
pub power_round : (n : ℕ) → power (n % 15) ≡ power n
power_round n =
    sym (product_one (power (n % 15)) (power_lt (n % 15))) ∙ ap (λ (x : ℕ). product x (power (n % 15))) (sym (round (n / 15)))
    ∙ sym (power-add (n / 15 * 15) (n % 15)) ∙ ap power (div-add-mod' n 15)

apart_test : below 15 (λ i. below 15 (λ j. or (eqb i j) (not (eqb (bit_xor (power i) (power j)) 0)))) ≡ true
unfolding power times_root
apart_test = refl

-- fifteen different powers
pub powers_apart : (i j : ℕ) → i < 15 → j < 15 → (i ≡ j → ⊥) → bit_xor (power i) (power j) ≡ 0 → ⊥
powers_apart i j hi hj ne e =
    go (eqb i j) (eqb (bit_xor (power i) (power j)) 0) refl refl
    (at2 15 15 (λ i j. or (eqb i j) (not (eqb (bit_xor (power i) (power j)) 0))) apart_test i j hi hj)
  where
    go : (s t : Bool) → eqb i j ≡ s → eqb (bit_xor (power i) (power j)) 0 ≡ t → or s (not t) ≡ true → ⊥
    go true t p q k = ne (eqb-true i j p)
    go false true p q k = apart (cc)
    go false false p q k = eqb-false (bit_xor (power i) (power j)) 0 q e

some_test : below 15 (λ i. not (eqb (power i) 0)) ≡ true
unfolding power times_root
some_test = refl

pub power_some : (n : ℕ) → power n ≡ 0 → ⊥
power_some n e =
    let t = at 15 (λ i. not (eqb (power i) 0)) some_test (n % 15) (omega arith) in
    eqb-false (power (n % 15)) 0 (not-true _ t) (power_round n ∙ e)
