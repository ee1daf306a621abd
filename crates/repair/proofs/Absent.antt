-- THE TRAP: a word whose values are those of a change to a symbol that it does not have is near no rightly written one. The two changes that a
-- word near it would explain, and these two, are four among fifteen symbols, and four roots leave none of them.
-- Assumes nothing.
use mathlib.Core.Path.{◌≡◌, refl, sym, ap, ap₂, ◌∙◌, fun_ext}
use mathlib.Core.Bool.{Bool}
use Prim.Native.Nat.{ℕ, zero, suc, ◌+◌, ◌*◌, ◌%◌, ◌^◌, ◌<◌, ◌≤◌}
use native.Mathlib.Nat.{zero-add, suc-add}
use native.Mathlib.Omega.{arith}
use lib.Dec.{eqb}
use lib.Bits.{bit_xor, xor_lt, xor_self, xor_zero_r}
use borrow.Author.Tests.{eq-eqb, ne_eqb}
use Rattle.octets.specs.Basics.{pick}
use Rattle.octets.proofs.Choices.{pick_lt}
use Rattle.words.specs.Fields.{field}
use Rattle.words.proofs.Fields.{above_past}
use Rattle.repair.specs.Field.{power, product}
use Rattle.repair.specs.Code.{symbol, Near}
use Rattle.repair.specs.Values.{value}
use Rattle.repair.specs.Statements.{AbsentRefused}
use Rattle.repair.proofs.Values.{value_xor, value_only, count, one_none, count_only, count_xor, light}
use Rattle.repair.proofs.Words.{symbol_lt, symbol_xor, apart_count}
use Rattle.repair.proofs.Roots.{value_more, written_roots}
use Rattle.repair.proofs.Nearest.{right_lt, refused_when_none}

-- x for one symbol, and 0 for all others
abbrev only : ℕ → ℕ → ℕ → ℕ
only i x k = pick (eqb k i) x 0

only_here : (i x : ℕ) → only i x i ≡ x
only_here i x = ap (λ (b : Bool). pick b x 0) (eq-eqb i i refl)

only_there : (i x k : ℕ) → (k ≡ i → ⊥) → only i x k ≡ 0
only_there i x k ne = ap (λ (b : Bool). pick b x 0) (ne_eqb k i ne)

only_value : (j i x : ℕ) → i < 15 → value 15 j (only i x) ≡ product x (power (j * i))
only_value j i x h = value_only 15 j i (only i x) h (λ k l ne. only_there i x k ne) ∙ ap (λ (z : ℕ). product z (power (j * i))) (only_here i x)

count_more : (m n : ℕ) (c : ℕ → ℕ) → ((k : ℕ) → n ≤ k → c k ≡ 0) → count (m + n) c ≡ count n c
unfolding count
count_more zero n c h = ap (λ (k : ℕ). count k c) (zero-add n)
count_more (suc m) n c h =
    let none : pick {A = ℕ} (eqb (c (m + n)) 0) 0 1 ≡ 0 = one_none (c (m + n)) (h (m + n) (omega arith)) in
    ap (λ (k : ℕ). count k c) (suc-add m n) ∙ omega (arith, count_more m n c h, none)

-- a word has no more than ten symbols
symbol_past : (k w : ℕ) → 10 ≤ k → w < 16 ^ 10 → symbol k w ≡ 0
unfolding symbol field
symbol_past k w h short = ap (λ (x : ℕ). x % 16) (above_past 40 w (4 * k) short (omega arith))

module _ (w v i x q y : ℕ) (short : w < 16 ^ 10) (near : Near w v) (absent : 10 ≤ i) (hi : i < 15) (hx : x < 16) (hq : q < 15) (hy : y < 16)
    (apart : i ≡ q → ⊥)
    (values : (j : ℕ) → j < 4 → value 10 (6 + j) (λ k. symbol k w) ≡ bit_xor (product x (power ((6 + j) * i))) (product y (power ((6 + j) * q)))) where
  difference : ℕ → ℕ
  difference k = symbol k (bit_xor w v)

  changes : ℕ → ℕ
  changes k = bit_xor (only i x k) (only q y k)

  past : (k : ℕ) → 10 ≤ k → difference k ≡ 0
  unfolding difference
  past k h = symbol_past k (bit_xor w v) h (xor_lt 40 w v short (right_lt v near.right))

  all : ℕ → ℕ
  all k = bit_xor (difference k) (changes k)

  all_lt : (k : ℕ) → all k < 16
  unfolding all difference changes
  all_lt k =
      xor_lt 4 (symbol k (bit_xor w v)) (bit_xor (only i x k) (only q y k)) (symbol_lt k (bit_xor w v))
      (xor_lt 4 (only i x k) (only q y k) (pick_lt (eqb k i) x 0 16 hx (omega arith)) (pick_lt (eqb k q) y 0 16 hy (omega arith)))

  few : count 15 all ≤ 4
  unfolding all difference changes
  few =
      omega (
        arith,
        count_xor 15 difference changes,
        count_xor 15 (only i x) (only q y),
        count_more 5 10 difference past,
        apart_count 10 w v,
        near.close,
        count_only 15 i (only i x) (λ k l ne. only_there i x k ne),
        count_only 15 q (only q y) (λ k l ne. only_there q y k ne),
      )

  roots : (j : ℕ) → j < 4 → value 15 (6 + j) all ≡ 0
  unfolding all difference changes
  roots j h =
      let both : ℕ = bit_xor (product x (power ((6 + j) * i))) (product y (power ((6 + j) * q))) in
      value_xor 15 (6 + j) difference changes
      ∙ ap₂ bit_xor
      (value_more 5 10 (6 + j) difference past
      ∙ ap (value 10 (6 + j)) (fun_ext (λ k. symbol_xor k w v)) ∙ value_xor 10 (6 + j) (λ k. symbol k w) (λ k. symbol k v)
      ∙ ap₂ bit_xor (values j h) (written_roots v near.right j h) ∙ xor_zero_r both)
      (value_xor 15 (6 + j) (only i x) (only q y) ∙ ap₂ bit_xor (only_value (6 + j) i x hi) (only_value (6 + j) q y hq))
      ∙ xor_self both

  none : x ≡ 0
  unfolding all changes
  none =
      sym (ap₂ bit_xor (past i absent) (ap₂ bit_xor (only_here i x) (only_there q y i apart) ∙ xor_zero_r x))
      ∙ light 15 (omega arith) 4 all all_lt few roots i hi

pub absent_refused : AbsentRefused
absent_refused w i x q y short absent hi some hx hq hy apart values =
    refused_when_none w
    (λ v near. let none : x ≡ 0 = none w v i x q y short near absent hi hx hq hy apart values in
    omega arith)
