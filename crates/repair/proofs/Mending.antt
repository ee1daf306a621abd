-- A rightly written word that differs from another at two places only, found from that other's values at a^6 and a^7.
-- Assumes nothing.
use mathlib.Core.Path.{◌≡◌, refl, sym, ap, ap₂, ◌∙◌, subst⁻¹, fun_ext}
use mathlib.Core.Bool.{Bool}
use Prim.Native.Nat.{ℕ, zero, suc, ◌+◌, ◌-◌, ◌*◌, ◌%◌, ◌^◌, ◌<◌, ◌≤◌}
use native.Mathlib.Nat.{lt_of_lt_of_le}
use native.Mathlib.Omega.{arith}
use lib.Dec.{eqb}
use lib.Pow.{shl_lt, shl_exact, pow_mono}
use lib.Bits.{bit_xor, xor_lt, xor_self, xor_zero_r, xor_comm}
use borrow.Author.Tests.{eq-eqb, ne_eqb, eqb-true, eqb-false}
use Rattle.octets.specs.Basics.{pick}
use Rattle.octets.proofs.Tests.{test}
use Rattle.repair.specs.Field.{power, product}
use Rattle.repair.specs.Values.{value, Exponent, Amount, Candidate}
use Rattle.repair.specs.Code.{symbol, Written, distance}
use Rattle.octets.proofs.Sums.{crosswise}
use Rattle.repair.proofs.Sums.{xor_twice}
use Rattle.repair.proofs.Laws.{product_comm, product_assoc, product_xor, swap, product_one, product_lt, cancel, power-add, power_lt, powers_apart, round}
use Rattle.repair.proofs.Table.{quotient}
use Rattle.repair.proofs.Values.{value_xor, value_only, count, count_xor, count_only}
use Rattle.repair.proofs.Words.{symbol_lt, symbol_xor, same_symbols, unit_at, apart_count}
use Rattle.repair.proofs.Roots.{written_roots}
use Rattle.repair.proofs.Nearest.{right_lt}

-- ---- what a change at p and one at q leave in the two values gives the change at p

module _ (p q x y s0 s1 t : ℕ) (hp : p < 10) (hq : q < 10) (ne : p ≡ q → ⊥) (hx : x < 16) (ht : t < 16)
    (e0 : s0 ≡ bit_xor (product x (power (6 * p))) (product y (power (6 * q))))
    (e1 : s1 ≡ bit_xor (product x (power (7 * p))) (product y (power (7 * q))))
    (et : product t (bit_xor (power p) (power q)) ≡ bit_xor s1 (product (power q) s0)) where
  seven : (k : ℕ) → product (power k) (power (6 * k)) ≡ power (7 * k)
  seven k = let e : k + 6 * k ≡ 7 * k = omega arith in sym (power-add k (6 * k)) ∙ ap power e

  without_q : bit_xor s1 (product (power q) s0) ≡ product (product x (power (6 * p))) (bit_xor (power p) (power q))
  without_q =
      ap₂ bit_xor e1 (ap (product (power q)) e0 ∙ product_xor (power q) (product x (power (6 * p))) (product y (power (6 * q)))
      ∙ ap (bit_xor (product (power q) (product x (power (6 * p))))) (swap (power q) y (power (6 * q)) ∙ ap (product y) (seven q)))
      ∙ crosswise (product x (power (7 * p))) (product y (power (7 * q))) (product (power q) (product x (power (6 * p)))) (product y (power (7 * q)))
      ∙ ap (bit_xor (bit_xor (product x (power (7 * p))) (product (power q) (product x (power (6 * p)))))) (xor_self (product y (power (7 * q))))
      ∙ xor_zero_r (bit_xor (product x (power (7 * p))) (product (power q) (product x (power (6 * p)))))
      ∙ ap₂ bit_xor
      (ap (product x) (sym (seven p)) ∙ swap x (power p) (power (6 * p)) ∙ product_comm (power p) (product x (power (6 * p))))
      (product_comm (power q) (product x (power (6 * p))))
      ∙ sym (product_xor (product x (power (6 * p))) (power p) (power q))

  quotient_is : t ≡ product x (power (6 * p))
  quotient_is =
      cancel t (product x (power (6 * p))) (bit_xor (power p) (power q)) ht (product_lt x (power (6 * p)))
      (xor_lt 4 (power p) (power q) (power_lt p) (power_lt q)) (powers_apart p q (omega arith) (omega arith) ne) (et ∙ without_q)

  pub amount_is : product t (power (9 * p)) ≡ x
  amount_is =
      let e : 6 * p + 9 * p ≡ p * 15 = omega arith in
      ap (λ (u : ℕ). product u (power (9 * p))) quotient_is ∙ product_assoc x (power (6 * p)) (power (9 * p))
      ∙ ap (product x) (sym (power-add (6 * p) (9 * p)) ∙ ap power e ∙ round p) ∙ product_comm x 1 ∙ product_one x hx

-- ---- a word with two symbols changed

-- x added at p, y at q
abbrev pub changed : ℕ → ℕ → ℕ → ℕ → ℕ → ℕ
changed w p x q y = bit_xor w (bit_xor (x * 2 ^ (4 * p)) (y * 2 ^ (4 * q)))

unit_lt : (p x : ℕ) → p < 10 → x < 16 → x * 2 ^ (4 * p) < 16 ^ 10
unit_lt p x hp hx = lt_of_lt_of_le (shl_lt 4 (4 * p) hx) (pow_mono {i = 4 + 4 * p} {j = 40} (omega arith))

pub changed_lt : (w p x q y : ℕ) → w < 16 ^ 10 → p < 10 → q < 10 → x < 16 → y < 16 → changed w p x q y < 16 ^ 10
changed_lt w p x q y hw hp hq hx hy =
    xor_lt 40 w (bit_xor (x * 2 ^ (4 * p)) (y * 2 ^ (4 * q))) hw
    (xor_lt 40 (x * 2 ^ (4 * p)) (y * 2 ^ (4 * q)) (unit_lt p x hp hx) (unit_lt q y hq hy))

module _ (p q x y : ℕ) (hp : p < 10) (hq : q < 10) (hx : x < 16) (hy : y < 16) where
  -- the change at each place
  change_at : (k : ℕ) → k < 10 → symbol k (bit_xor (x * 2 ^ (4 * p)) (y * 2 ^ (4 * q))) ≡ bit_xor (pick (eqb k p) x 0) (pick (eqb k q) y 0)
  change_at k hk =
      symbol_xor k (x * 2 ^ (4 * p)) (y * 2 ^ (4 * q)) ∙ ap₂ bit_xor (unit_at p k x hp hk hx) (unit_at q k y hq hk hy)

  unit_value : (j i z : ℕ) → i < 10 → z < 16 → value 10 j (λ k. symbol k (z * 2 ^ (4 * i))) ≡ product z (power (j * i))
  unit_value j i z hi hz =
      value_only 10 j i (λ k. symbol k (z * 2 ^ (4 * i))) hi (λ k hk other. unit_at i k z hi hk hz ∙ ap (λ (b : Bool). pick b z 0) (ne_eqb k i other))
      ∙ ap (λ (u : ℕ). product u (power (j * i))) (unit_at i i z hi hi hz ∙ ap (λ (b : Bool). pick b z 0) (eq-eqb i i refl))

  -- the value that it has
  change_value : (j : ℕ) → value 10 j (λ k. symbol k (bit_xor (x * 2 ^ (4 * p)) (y * 2 ^ (4 * q)))) ≡ bit_xor (product x (power (j * p))) (product y (power (j * q)))
  change_value j =
      ap (value 10 j) (fun_ext (λ k. symbol_xor k (x * 2 ^ (4 * p)) (y * 2 ^ (4 * q))))
      ∙ value_xor 10 j (λ k. symbol k (x * 2 ^ (4 * p))) (λ k. symbol k (y * 2 ^ (4 * q)))
      ∙ ap₂ bit_xor (unit_value j p x hp hx) (unit_value j q y hq hy)

-- two words that agree but at p and q differ by a change there
module _ (w v p q : ℕ) (hw : w < 16 ^ 10) (hv : v < 16 ^ 10) (hp : p < 10) (hq : q < 10) (ne : p ≡ q → ⊥)
    (agree : (k : ℕ) → k < 10 → (k ≡ p → ⊥) → (k ≡ q → ⊥) → symbol k (bit_xor w v) ≡ 0) where
  abbrev x : ℕ
  x = symbol p (bit_xor w v)

  abbrev y : ℕ
  y = symbol q (bit_xor w v)

  small_x : x < 16
  small_x = symbol_lt p (bit_xor w v)

  small_y : y < 16
  small_y = symbol_lt q (bit_xor w v)

  difference : bit_xor w v ≡ bit_xor (x * 2 ^ (4 * p)) (y * 2 ^ (4 * q))
  difference =
      same_symbols 10 (bit_xor w v) (bit_xor (x * 2 ^ (4 * p)) (y * 2 ^ (4 * q))) (xor_lt 40 w v hw hv)
      (xor_lt 40 (x * 2 ^ (4 * p)) (y * 2 ^ (4 * q)) (unit_lt p x hp small_x) (unit_lt q y hq small_y))
      (λ k hk. each k hk ∙ sym (change_at p q x y hp hq small_x small_y k hk))
    where
      each : (k : ℕ) → k < 10 → symbol k (bit_xor w v) ≡ bit_xor (pick (eqb k p) x 0) (pick (eqb k q) y 0)
      each k hk =
          test (eqb k p)
          (λ a. test (eqb k q) (λ b. absurd (ne (sym (eqb-true k p a) ∙ eqb-true k q b)))
          (λ b. rw (a, b) (ap (λ (i : ℕ). symbol i (bit_xor w v)) (eqb-true k p a) ∙ sym (xor_zero_r x))))
          (λ a. test (eqb k q) (λ b. rw (a, b) (ap (λ (i : ℕ). symbol i (bit_xor w v)) (eqb-true k q b)))
          (λ b. rw (a, b) (agree k hk (eqb-false k p a) (eqb-false k q b))))

  pub as_changed : changed w p x q y ≡ v
  as_changed = ap (bit_xor w) (sym difference) ∙ xor_twice w v

  -- the values of the one are those of the change, where the other has the roots
  pub left_over : Written v → (j : ℕ) → j < 4
      → value 10 (6 + j) (λ k. symbol k w) ≡ bit_xor (product x (power ((6 + j) * p))) (product y (power ((6 + j) * q)))
  left_over right j hj =
      ap (λ (u : ℕ). value 10 (6 + j) (λ k. symbol k u)) (sym (xor_twice v w) ∙ ap (bit_xor v) (xor_comm v w ∙ difference))
      ∙ ap (value 10 (6 + j)) (fun_ext (λ k. symbol_xor k v (bit_xor (x * 2 ^ (4 * p)) (y * 2 ^ (4 * q)))))
      ∙ value_xor 10 (6 + j) (λ k. symbol k v) (λ k. symbol k (bit_xor (x * 2 ^ (4 * p)) (y * 2 ^ (4 * q))))
      ∙ ap₂ bit_xor (written_roots v right j hj) (change_value p q x y hp hq small_x small_y (6 + j))

-- ---- no more than two symbols are changed

pub changed_close : (w p x q y : ℕ) → p < 10 → q < 10 → x < 16 → y < 16 → distance 10 w (changed w p x q y) ≤ 2
changed_close w p x q y hp hq hx hy =
    let e : distance 10 w (changed w p x q y) ≡ count 10 (λ k. bit_xor (symbol k (x * 2 ^ (4 * p))) (symbol k (y * 2 ^ (4 * q)))) =
    apart_count 10 w (changed w p x q y)
    ∙ ap (count 10) (fun_ext (λ k. ap (symbol k) (xor_twice w (bit_xor (x * 2 ^ (4 * p)) (y * 2 ^ (4 * q)))) ∙ symbol_xor k (x * 2 ^ (4 * p)) (y * 2 ^ (4 * q)))) in
    omega (arith, e, count_xor 10 (λ k. symbol k (x * 2 ^ (4 * p))) (λ k. symbol k (y * 2 ^ (4 * q))), one p x hp hx, one q y hq hy)
  where
    one : (i z : ℕ) → i < 10 → z < 16 → count 10 (λ k. symbol k (z * 2 ^ (4 * i))) ≤ 1
    one i z hi hz =
        count_only 10 i (λ k. symbol k (z * 2 ^ (4 * i))) (λ k hk other. unit_at i k z hi hk hz ∙ ap (λ (b : Bool). pick b z 0) (ne_eqb k i other))

-- the two together: what the code computes is the change; j is the exponent of what the places' powers differ by
pub amount_by : (six seven p q j r : ℕ) → p < 10 → q < 10 → Exponent (bit_xor (power p) (power q)) j
    → r ≡ product (bit_xor seven (product six (power q))) (power (15 - j + 9 * p)) → Amount six seven p q r
amount_by six seven p q j r hp hq exponent e =
    record {
      small = subst⁻¹ (λ (x : ℕ). x < 16) e (product_lt without (power (15 - j + 9 * p)));
      is =
          λ x y hx hy ne e0 e1.
          let apart : 0 < bit_xor (power p) (power q) = some (bit_xor (power p) (power q)) (powers_apart p q (omega arith) (omega arith) ne) in
          let small : without < 16 =
          xor_lt 4 seven (product six (power q))
          (subst⁻¹ (λ (u : ℕ). u < 16) e1
          (xor_lt 4 (product x (power (7 * p))) (product y (power (7 * q))) (product_lt x (power (7 * p))) (product_lt y (power (7 * q)))))
          (product_lt six (power q)) in
          e ∙ ap (product without) (power-add (15 - j) (9 * p)) ∙ sym (product_assoc without (power (15 - j)) (power (9 * p)))
          ∙ amount_is p q x y six seven (product without (power (15 - j))) hp hq ne hx (product_lt without (power (15 - j))) e0 e1
          (quotient without (bit_xor (power p) (power q)) j small exponent.short
          (exponent.is apart (xor_lt 4 (power p) (power q) (power_lt p) (power_lt q)))
          ∙ ap (bit_xor seven) (product_comm six (power q)));
    }
  where
    without : ℕ
    without = bit_xor seven (product six (power q))

    some : (n : ℕ) → (n ≡ 0 → ⊥) → 0 < n
    some zero ne = absurd (ne refl)
    some (suc n) ne = omega arith

-- a word with two symbols changed back is that which was sent, if only these were changed
candidate_by : (w six seven p q a b : ℕ) → w < 16 ^ 10 → p < q → q < 10 → six ≡ value 10 6 (λ k. symbol k w) → seven ≡ value 10 7 (λ k. symbol k w)
    → Amount six seven p q a → Amount six seven q p b → Candidate w p q (changed w p a q b)
candidate_by w six seven p q a b hw pq hq e6 e7 at_p at-q =
    record {
      short = changed_lt w p a q b hw (omega arith) hq at_p.small at-q.small;
      close = changed_close w p a q b (omega arith) hq at_p.small at-q.small;
      is = found;
    }
  where
    hp : p < 10
    hp = omega arith

    found : (v : ℕ) → Written v → ((k : ℕ) → k < 10 → (k ≡ p → ⊥) → (k ≡ q → ⊥) → symbol k (bit_xor w v) ≡ 0) → changed w p a q b ≡ v
    found v right agree =
        let ne : p ≡ q → ⊥ = λ e. omega arith in
        let ne' : q ≡ p → ⊥ = λ e. omega arith in
        let x : ℕ = symbol p (bit_xor w v) in
        let y : ℕ = symbol q (bit_xor w v) in
        let hx : x < 16 = symbol_lt p (bit_xor w v) in
        let hy : y < 16 = symbol_lt q (bit_xor w v) in
        let hv : v < 16 ^ 10 = right_lt v right in
        let zero_left : six ≡ bit_xor (product x (power (6 * p))) (product y (power (6 * q))) = e6 ∙ left_over w v p q hw hv hp hq ne agree right 0 (omega arith) in
        let one_left : seven ≡ bit_xor (product x (power (7 * p))) (product y (power (7 * q))) = e7 ∙ left_over w v p q hw hv hp hq ne agree right 1 (omega arith) in
        let ea : a ≡ x = at_p.is x y hx hy ne zero_left one_left in
        let eb : b ≡ y =
        at-q.is y x hy hx ne' (zero_left ∙ xor_comm (product x (power (6 * p))) (product y (power (6 * q))))
        (one_left ∙ xor_comm (product x (power (7 * p))) (product y (power (7 * q)))) in
        ap₂ (λ (m n : ℕ). changed w p m q n) ea eb ∙ as_changed w v p q hw hv hp hq ne agree

-- as the code shifts the changes to their places
pub candidate_of : (w : ℕ) {six seven p q a b : ℕ} → w < 16 ^ 10 → p < q → q < 10 → six ≡ value 10 6 (λ k. symbol k w) → seven ≡ value 10 7 (λ k. symbol k w)
    → Amount six seven p q a → Amount six seven q p b
    → Candidate w p q (bit_xor w (bit_xor (a * 2 ^ (4 * p) % 2 ^ 64) (b * 2 ^ (4 * q) % 2 ^ 64)))
candidate_of w {six} {seven} {p} {q} {a} {b} hw pq hq e6 e7 at_p at-q =
    subst⁻¹ (Candidate w p q)
    (ap₂ (λ (x y : ℕ). bit_xor w (bit_xor x y)) (shl_exact 4 (4 * p) 64 at_p.small (omega arith)) (shl_exact 4 (4 * q) 64 at-q.small (omega arith)))
    (candidate_by w six seven p q a b hw pq hq e6 e7 at_p at-q)
