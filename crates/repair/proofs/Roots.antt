-- The generator's roots, and that every rightly written word has them.
-- Assumes nothing.
use mathlib.Core.Path.{◌≡◌, refl, sym, ap, ap₂, ◌∙◌, fun_ext}
use mathlib.Core.Bool.{true}
use Prim.Native.Nat.{ℕ, zero, suc, ◌+◌, ◌*◌, ◌/◌, ◌%◌, ◌^◌, ◌<◌, ◌≤◌}
use native.Mathlib.Nat.{mul-suc, mul-zero, mul-one, add_comm, div-eq_of_lt, lt_of_lt_of_le, zero-add, suc-add}
use native.Mathlib.Omega.{arith}
use lib.Dec.{eqb}
use lib.Pow.{pow_mono}
use lib.Bits.{bit_xor, xor_comm, xor_lt, xor_self, xor_zero_r, xor_shifted}
use borrow.Author.Tests.{eqb-true}
use Rattle.words.specs.Fields.{field}
use Rattle.repair.specs.Field.{times_root, power, product_from, product}
use Rattle.repair.specs.Values.{total, value}
use Rattle.repair.specs.Code.{Register, symbol, divided, remainder, four, checks, written, Written}
use Rattle.octets.proofs.Every.{below, at}
use Rattle.octets.proofs.Sums.{xor_assoc, crosswise}
use Rattle.repair.proofs.Sums.{xor_swap}
use Rattle.repair.proofs.Laws.{product_comm, product_assoc, product_xor, xor_product, swap, product-zero, product_one, product_lt, power-add, power_zero}
use Rattle.repair.proofs.Values.{total_first, total_times, value_xor}
use Rattle.repair.proofs.Words.{symbol_first, symbol_next, symbol_xor}

-- the four symbols of a remainder are symbols
pub record Small (r : Register) : Type 0 where
  pub s3 : r.c3 < 16
  pub s2 : r.c2 < 16
  pub s1 : r.c1 < 16
  pub s0 : r.c0 < 16

small_divided : (r : Register) (s : ℕ) → Small r → s < 16 → Small (divided r s)
unfolding divided
small_divided r s h l =
    record {
      s3 = xor_lt 4 r.c2 (product r.c3 (power 3)) h.s2 (product_lt r.c3 (power 3));
      s2 = xor_lt 4 r.c1 (product r.c3 (power 1)) h.s1 (product_lt r.c3 (power 1));
      s1 = xor_lt 4 r.c0 (product r.c3 (power 3)) h.s0 (product_lt r.c3 (power 3));
      s0 = xor_lt 4 s r.c3 l h.s3;
    }

pub small : (n w : ℕ) → Small (remainder n w)
unfolding remainder
small zero w = record { s3 = omega arith; s2 = omega arith; s1 = omega arith; s0 = omega arith }
small (suc n) w = small_divided (remainder n (w / 16)) (w % 16) (small n (w / 16)) (omega arith)

pub four_lt : (r : Register) → Small r → four r < 16 ^ 4
unfolding four
four_lt r h = omega arith

-- ---- the generator has the roots a^6 to a^9

pub generator_at : ℕ → ℕ
generator_at j = bit_xor (bit_xor (product (power 3) (power (j * 3))) (product (power 1) (power (j * 2)))) (bit_xor (product (power 3) (power j)) 1)

roots_test : below 4 (λ j. eqb (generator_at (6 + j)) (product (power (6 + j)) (power ((6 + j) * 3)))) ≡ true
unfolding generator_at product product_from power times_root
roots_test = refl

-- the generator's other terms add up to its x^4 there
pub generator_roots : (j : ℕ) → j < 4 → generator_at (6 + j) ≡ product (power (6 + j)) (power ((6 + j) * 3))
generator_roots j h =
    eqb-true _ _ (at 4 (λ j. eqb (generator_at (6 + j)) (product (power (6 + j)) (power ((6 + j) * 3)))) roots_test j h)

-- ---- a remainder's value

module _ (j : ℕ) where
  abbrev of : Register → ℕ
  of r = bit_xor (bit_xor (product r.c3 (power (j * 3))) (product r.c2 (power (j * 2)))) (bit_xor (product r.c1 (power j)) r.c0)

  tripled : product (power j) (power (j * 2)) ≡ power (j * 3)
  tripled = let e : j + j * 2 ≡ j * 3 = omega arith in sym (power-add j (j * 2)) ∙ ap power e

  doubled : product (power j) (power j) ≡ power (j * 2)
  doubled = let e : j + j ≡ j * 2 = omega arith in sym (power-add j j) ∙ ap power e

  module _ (rooted : generator_at j ≡ product (power j) (power (j * 3))) (r : Register) (s : ℕ) (h : Small r) where
    -- what the generator takes away
    taken : bit_xor (bit_xor (product (product r.c3 (power 3)) (power (j * 3))) (product (product r.c3 (power 1)) (power (j * 2))))
        (bit_xor (product (product r.c3 (power 3)) (power j)) r.c3)
        ≡ product (power j) (product r.c3 (power (j * 3)))
    unfolding generator_at
    taken =
        ap₂ bit_xor
        (ap₂ bit_xor (product_assoc r.c3 (power 3) (power (j * 3))) (product_assoc r.c3 (power 1) (power (j * 2)))
        ∙ sym (product_xor r.c3 (product (power 3) (power (j * 3))) (product (power 1) (power (j * 2)))))
        (ap₂ bit_xor (product_assoc r.c3 (power 3) (power j)) (sym (product_comm r.c3 1 ∙ product_one r.c3 h.s3))
        ∙ sym (product_xor r.c3 (product (power 3) (power j)) 1))
        ∙ sym (product_xor r.c3 (bit_xor (product (power 3) (power (j * 3))) (product (power 1) (power (j * 2)))) (bit_xor (product (power 3) (power j)) 1))
        ∙ ap (product r.c3) rooted ∙ swap r.c3 (power j) (power (j * 3))

    -- sums in another order
    order : (a b c t : ℕ) → bit_xor (bit_xor (bit_xor a b) (bit_xor c s)) t ≡ bit_xor s (bit_xor (bit_xor t a) (bit_xor b c))
    order a b c t =
        xor_comm (bit_xor (bit_xor a b) (bit_xor c s)) t
        ∙ ap (bit_xor t) (sym (xor_assoc (bit_xor a b) c s) ∙ xor_comm (bit_xor (bit_xor a b) c) s ∙ ap (bit_xor s) (xor_assoc a b c))
        ∙ xor_swap t s (bit_xor a (bit_xor b c)) ∙ ap (bit_xor s) (sym (xor_assoc t a (bit_xor b c)))

    step : of (divided r s) ≡ bit_xor s (product (power j) (of r))
    unfolding divided
    step =
        ap₂ bit_xor
        (ap₂ bit_xor (xor_product r.c2 (product r.c3 (power 3)) (power (j * 3))) (xor_product r.c1 (product r.c3 (power 1)) (power (j * 2)))
        ∙ crosswise (product r.c2 (power (j * 3))) (product (product r.c3 (power 3)) (power (j * 3))) (product r.c1 (power (j * 2)))
        (product (product r.c3 (power 1)) (power (j * 2))))
        (ap (λ (x : ℕ). bit_xor x (bit_xor s r.c3)) (xor_product r.c0 (product r.c3 (power 3)) (power j))
        ∙ crosswise (product r.c0 (power j)) (product (product r.c3 (power 3)) (power j)) s r.c3)
        ∙ crosswise (bit_xor (product r.c2 (power (j * 3))) (product r.c1 (power (j * 2))))
        (bit_xor (product (product r.c3 (power 3)) (power (j * 3))) (product (product r.c3 (power 1)) (power (j * 2))))
        (bit_xor (product r.c0 (power j)) s) (bit_xor (product (product r.c3 (power 3)) (power j)) r.c3)
        ∙ ap (bit_xor (bit_xor (bit_xor (product r.c2 (power (j * 3))) (product r.c1 (power (j * 2)))) (bit_xor (product r.c0 (power j)) s))) taken
        ∙ order (product r.c2 (power (j * 3))) (product r.c1 (power (j * 2))) (product r.c0 (power j)) (product (power j) (product r.c3 (power (j * 3))))
        ∙ ap (bit_xor s) (sym whole)
      where
        whole : product (power j) (of r)
            ≡ bit_xor (bit_xor (product (power j) (product r.c3 (power (j * 3)))) (product r.c2 (power (j * 3))))
            (bit_xor (product r.c1 (power (j * 2))) (product r.c0 (power j)))
        whole =
            product_xor (power j) (bit_xor (product r.c3 (power (j * 3))) (product r.c2 (power (j * 2)))) (bit_xor (product r.c1 (power j)) r.c0)
            ∙ ap₂ bit_xor
            (product_xor (power j) (product r.c3 (power (j * 3))) (product r.c2 (power (j * 2)))
            ∙ ap (bit_xor (product (power j) (product r.c3 (power (j * 3))))) (swap (power j) r.c2 (power (j * 2)) ∙ ap (product r.c2) tripled))
            (product_xor (power j) (product r.c1 (power j)) r.c0
            ∙ ap₂ bit_xor (swap (power j) r.c1 (power j) ∙ ap (product r.c1) doubled) (product_comm (power j) r.c0))

  -- a word has the value of its remainder
  pub horner : generator_at j ≡ product (power j) (power (j * 3)) → (n w : ℕ) → value n j (λ k. symbol k w) ≡ of (remainder n w)
  unfolding value remainder total
  horner rooted zero w = sym (ap₂ bit_xor (ap₂ bit_xor (product-zero (power (j * 3))) (product-zero (power (j * 2)))) (ap (λ (x : ℕ). bit_xor x 0) (product-zero (power j))))
  horner rooted (suc n) w =
      total_first n (λ k. product (symbol k w) (power (j * k)))
      ∙ ap₂ bit_xor start (ap (total n) (fun_ext each) ∙ total_times n (power j) (λ k. product (symbol k (w / 16)) (power (j * k))))
      ∙ ap (λ (x : ℕ). bit_xor (w % 16) (product (power j) x)) (horner rooted n (w / 16))
      ∙ sym (step rooted (remainder n (w / 16)) (w % 16) (small n (w / 16)))
    where
      start : product (symbol 0 w) (power (j * 0)) ≡ w % 16
      start =
          ap₂ (λ (x y : ℕ). product x (power y)) (symbol_first w) (mul-zero j) ∙ ap (product (w % 16)) power_zero ∙ product_comm (w % 16) 1 ∙ product_one (w % 16) (omega arith)

      each : (k : ℕ) → product (symbol (suc k) w) (power (j * suc k)) ≡ product (power j) (product (symbol k (w / 16)) (power (j * k)))
      each k =
          ap₂ (λ (x y : ℕ). product x (power y)) (symbol_next k w) (mul-suc j k ∙ add_comm (j * k) j)
          ∙ ap (product (symbol k (w / 16))) (power-add j (j * k)) ∙ swap (symbol k (w / 16)) (power j) (power (j * k))

-- ---- the check symbols' value

pub value_more : (m n j : ℕ) (c : ℕ → ℕ) → ((k : ℕ) → n ≤ k → c k ≡ 0) → value (m + n) j c ≡ value n j c
unfolding value total
value_more zero n j c h = ap (λ (x : ℕ). value x j c) (zero-add n)
value_more (suc m) n j c h =
    ap (λ (x : ℕ). value x j c) (suc-add m n)
    ∙ ap₂ bit_xor (value_more m n j c h)
    (ap (λ (x : ℕ). product x (power (j * (m + n)))) (h (m + n) (omega arith)) ∙ product-zero (power (j * (m + n))))
    ∙ xor_zero_r (value n j c)

module _ (j : ℕ) (r : Register) (h : Small r) where
  checks_value : value 10 j (λ k. symbol k (four r)) ≡ of j r
  unfolding value total symbol field four
  checks_value =
      value_more 6 4 j (λ k. symbol k (four r)) past
      ∙ ap₂ bit_xor (ap₂ bit_xor (ap₂ bit_xor at0 at1) at2) at3
      ∙ xor_comm (bit_xor (bit_xor r.c0 (product r.c1 (power j))) (product r.c2 (power (j * 2)))) (product r.c3 (power (j * 3)))
      ∙ ap (bit_xor (product r.c3 (power (j * 3))))
      (xor_comm (bit_xor r.c0 (product r.c1 (power j))) (product r.c2 (power (j * 2)))
      ∙ ap (bit_xor (product r.c2 (power (j * 2)))) (xor_comm r.c0 (product r.c1 (power j))))
      ∙ sym (xor_assoc (product r.c3 (power (j * 3))) (product r.c2 (power (j * 2))) (bit_xor (product r.c1 (power j)) r.c0))
    where
      past : (k : ℕ) → 4 ≤ k → symbol k (four r) ≡ 0
      past k l =
          ap (λ (x : ℕ). x % 16) (div-eq_of_lt (lt_of_lt_of_le (four_lt r h) (pow_mono {i = 16} {j = 4 * k} (omega arith))))

      e0 : symbol 0 (four r) ≡ r.c0
      e0 = omega arith

      e1 : symbol 1 (four r) ≡ r.c1
      e1 = omega arith

      e2 : symbol 2 (four r) ≡ r.c2
      e2 = omega arith

      e3 : symbol 3 (four r) ≡ r.c3
      e3 = omega arith

      at0 : product (symbol 0 (four r)) (power (j * 0)) ≡ r.c0
      at0 =
          ap₂ (λ (x y : ℕ). product x (power y)) e0 (mul-zero j) ∙ ap (product r.c0) power_zero ∙ product_comm r.c0 1
          ∙ product_one r.c0 h.s0

      at1 : product (symbol 1 (four r)) (power (j * 1)) ≡ product r.c1 (power j)
      at1 = ap₂ (λ (x y : ℕ). product x (power y)) e1 (mul-one j)

      at2 : product (symbol 2 (four r)) (power (j * 2)) ≡ product r.c2 (power (j * 2))
      at2 = ap (λ (x : ℕ). product x (power (j * 2))) e2

      at3 : product (symbol 3 (four r)) (power (j * 3)) ≡ product r.c3 (power (j * 3))
      at3 = ap (λ (x : ℕ). product x (power (j * 3))) e3

pub checks_lt : (six : ℕ) → checks six < 16 ^ 4
unfolding checks
checks_lt six = four_lt (remainder 10 (six * 16 ^ 4)) (small 10 (six * 16 ^ 4))

-- THE ROOTS: a rightly written word has the value 0 at a^6 to a^9
roots_of : (six j : ℕ) → j < 4 → value 10 (6 + j) (λ k. symbol k (written six)) ≡ 0
unfolding written checks
roots_of six j h =
    ap (λ (x : ℕ). value 10 (6 + j) (λ k. symbol k x)) (sym (xor_shifted six 16 (four r) (checks_lt six)))
    ∙ ap (value 10 (6 + j)) (fun_ext (λ k. symbol_xor k (six * 16 ^ 4) (four r)))
    ∙ value_xor 10 (6 + j) (λ k. symbol k (six * 16 ^ 4)) (λ k. symbol k (four r))
    ∙ ap₂ bit_xor (horner (6 + j) (generator_roots j h) 10 (six * 16 ^ 4)) (checks_value (6 + j) r (small 10 (six * 16 ^ 4)))
    ∙ xor_self (of (6 + j) r)
  where
    r : Register
    r = remainder 10 (six * 16 ^ 4)

pub written_roots : (v : ℕ) → Written v → (j : ℕ) → j < 4 → value 10 (6 + j) (λ k. symbol k v) ≡ 0
written_roots v w j h = ap (λ (x : ℕ). value 10 (6 + j) (λ k. symbol k x)) w.is ∙ roots_of w.six j h
