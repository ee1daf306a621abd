-- The table of the root's powers: its rule, computed once over the fifteen entries, and what it is good for.
-- Assumes nothing.
use mathlib.Core.Path.{◌≡◌, refl, sym, ap, ◌∙◌, subst}
use mathlib.Core.Bool.{Bool, true}
use mathlib.Core.List.{List, [], ◌∷◌}
use Prim.Native.Nat.{ℕ, suc, ◌+◌, ◌-◌, ◌*◌, ◌/◌, ◌%◌, ◌^◌, ◌<◌}
use native.Mathlib.Omega.{arith}
use lib.ListN.{length, get_or}
use lib.Dec.{eqb, ltb}
use Rattle.std.specs.Option.{unwrap_or}
use Rattle.std.specs.List.{position, position_or_len}
use lib.Bits.{bit_xor, xor_zero_l}
use borrow.Author.Tests.{eqb-true, ltb-true, ne_eqb}
use Rattle.octets.specs.Basics.{or}
use Rattle.repair.specs.Field.{times_root, power, product_from, product}
use Rattle.repair.specs.Values.{total, Exponent}
use Rattle.octets.proofs.Tests.{test}
use Rattle.octets.proofs.Every.{below, at, at2}
use Rattle.repair.proofs.Laws.{low_l, product_assoc, product_one, product_comm, power-add, power_lt, round}

abbrev pub powers : List ℕ
powers = 1 ∷ 2 ∷ 4 ∷ 8 ∷ 3 ∷ 6 ∷ 12 ∷ 11 ∷ 5 ∷ 10 ∷ 7 ∷ 14 ∷ 15 ∷ 13 ∷ 9 ∷ []

table_test : below 15 (λ n. eqb (get_or powers n 0) (power n)) ≡ true
unfolding power times_root
table_test = refl

-- THE TABLE'S RULE
pub table : (n : ℕ) → n < 15 → get_or powers n 0 ≡ power n
table n h = eqb-true _ _ (at 15 (λ n. eqb (get_or powers n 0) (power n)) table_test n h)

-- the place of an element in it; 0 where it has none
abbrev pub place : ℕ → ℕ
place e = unwrap_or (position (λ x. eqb x e) powers) 0

first_lt : (f : ℕ → Bool) (xs : List ℕ) → 0 < length xs → unwrap_or (position f xs) 0 < length xs
first_lt f xs some = test (ltb (position_or_len f xs) (length xs)) (λ t. rw t (ltb-true _ _ t)) (λ t. rw t some)

place_test : below 16 (λ e. or (eqb e 0) (eqb (power (place e)) e)) ≡ true
unfolding power times_root
place_test = refl

pub place_is : (e : ℕ) → Exponent e (place e)
place_is e = record {
  short = first_lt (λ x. eqb x e) powers (omega arith);
  is =
      λ pos small.
      eqb-true _ _
      (subst (λ (b : Bool). or b (eqb (power (place e)) e) ≡ true) (ne_eqb e 0 (λ z. omega arith))
      (at 16 (λ e. or (eqb e 0) (eqb (power (place e)) e)) place_test e small));
}

-- ---- products with a power, and quotients

-- the digits of an element, each times what it stands for
abbrev pub digits : ℕ → ℕ → ℕ → ℕ → ℕ → ℕ
digits e a b c d = bit_xor (bit_xor (bit_xor (e / 2 ^ 0 % 2 * a) (e / 2 ^ 1 % 2 * b)) (e / 2 ^ 2 % 2 * c)) (e / 2 ^ 3 % 2 * d)

-- a product by the digits of a factor
abbrev with_digits : ℕ → ℕ → ℕ
with_digits e a = digits e a (times_root a) (times_root (times_root a)) (times_root (times_root (times_root a)))

digits_test : below 16 (λ e. below 16 (λ a. eqb (with_digits e a) (product e a))) ≡ true
unfolding product product_from times_root
digits_test = refl

low_digits : (e a b c d : ℕ) → digits (e % 16) a b c d ≡ digits e a b c d
low_digits e a b c d =
    let zero : e % 16 / 2 ^ 0 % 2 ≡ e / 2 ^ 0 % 2 = omega arith in
    let one : e % 16 / 2 ^ 1 % 2 ≡ e / 2 ^ 1 % 2 = omega arith in
    let two : e % 16 / 2 ^ 2 % 2 ≡ e / 2 ^ 2 % 2 = omega arith in
    let three : e % 16 / 2 ^ 3 % 2 ≡ e / 2 ^ 3 % 2 = omega arith in
    rw (zero, one, two, three)

-- the sum of the digits is that of four
pub four_digits : (e : ℕ) (t : ℕ → ℕ) → total 4 (λ i. e / 2 ^ i % 2 * t i) ≡ digits e (t 0) (t 1) (t 2) (t 3)
unfolding total
four_digits e t = rw (xor_zero_l (e / 2 ^ 0 % 2 * t 0)) refl

-- each times a power
pub by_digits : (e n : ℕ) → digits e (power n) (power (n + 1)) (power (n + 2)) (power (n + 3)) ≡ product e (power n)
unfolding power
by_digits e n =
    let one : n + 1 ≡ suc n = omega arith in
    let two : n + 2 ≡ suc (suc n) = omega arith in
    let three : n + 3 ≡ suc (suc (suc n)) = omega arith in
    rw (one, two, three)
    (sym (low_digits e _ _ _ _) ∙ eqb-true _ _ (at2 16 16 (λ e a. eqb (with_digits e a) (product e a)) digits_test (e % 16) (power n) (omega arith) (power_lt n)) ∙ low_l e (power n))

-- what times another gives an element: the power that leads round to it
pub quotient : (a b j : ℕ) → a < 16 → j < 15 → power j ≡ b → product (product a (power (15 - j))) b ≡ a
quotient a b j small short is =
    let turn : 15 - j + j ≡ 1 * 15 = omega arith in
    ap (product (product a (power (15 - j)))) (sym is) ∙ product_assoc a (power (15 - j)) (power j)
    ∙ ap (product a) (sym (power-add (15 - j) j) ∙ ap power turn ∙ round 1) ∙ product_comm a 1 ∙ product_one a small
