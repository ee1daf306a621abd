-- Polynomials by their coefficients, their values at powers of the root, and THE LEAST DISTANCE (`light`): with n neighbouring powers as
-- roots and at most n coefficients that are not 0, all are 0.
-- Assumes nothing.
use mathlib.Core.Path.{◌≡◌, refl, sym, ap, ap₂, ◌∙◌, subst, fun_ext}
use mathlib.Core.Logic.{◌⊎◌, inl, inr}
use mathlib.Core.Bool.{Bool, true, false}
use Prim.Native.Nat.{ℕ, zero, suc, ◌+◌, ◌*◌, ◌<◌, ◌≤◌}
use native.Mathlib.Nat.{add-mul, one-mul, add_comm}
use native.Mathlib.Omega.{arith}
use lib.Dec.{eqb}
use lib.Bits.{bit_xor, xor_lt, xor_self, xor_zero_r}
use borrow.Author.Tests.{eqb-true, eqb-false, eq-eqb, ne_eqb}
use Rattle.octets.specs.Basics.{pick}
use Rattle.octets.proofs.Tests.{test}
use Rattle.repair.specs.Field.{power, product}
use Rattle.repair.specs.Values.{total, value}
use Rattle.octets.proofs.Sums.{xor_assoc, crosswise}
use Rattle.repair.proofs.Laws.{product_comm, product_assoc, product_xor, xor_product, product-zero, zero-product, product_lt, no_factor, power-add, power_lt, powers_apart, power_some}

-- ---- sums

total_xor : (n : ℕ) (f g : ℕ → ℕ) → total n (λ k. bit_xor (f k) (g k)) ≡ bit_xor (total n f) (total n g)
unfolding total
total_xor zero f g = refl
total_xor (suc n) f g =
    ap (λ (x : ℕ). bit_xor x (bit_xor (f n) (g n))) (total_xor n f g) ∙ crosswise (total n f) (total n g) (f n) (g n)

pub total_times : (n x : ℕ) (f : ℕ → ℕ) → total n (λ k. product x (f k)) ≡ product x (total n f)
unfolding total
total_times zero x f = sym (zero-product x)
total_times (suc n) x f = ap (λ (y : ℕ). bit_xor y (product x (f n))) (total_times n x f) ∙ sym (product_xor x (total n f) (f n))

total_none : (n : ℕ) (f : ℕ → ℕ) → ((k : ℕ) → k < n → f k ≡ 0) → total n f ≡ 0
unfolding total
total_none zero f h = refl
total_none (suc n) f h = ap₂ bit_xor (total_none n f (λ k l. h k (omega arith))) (h n (omega arith))

total_only : (n i : ℕ) (f : ℕ → ℕ) → i < n → ((k : ℕ) → k < n → (k ≡ i → ⊥) → f k ≡ 0) → total n f ≡ f i
unfolding total
total_only zero i f l h = absurd (omega arith)
total_only (suc n) i f l h =
    test (eqb i n)
    (λ e. let same : i ≡ n = eqb-true i n e in
    ap₂ bit_xor (total_none n f (λ k m. h k (omega arith) (λ q. omega arith))) (ap f (sym same)))
    (λ e. let other : i ≡ n → ⊥ = eqb-false i n e in
    ap₂ bit_xor (total_only n i f (omega arith) (λ k m. h k (omega arith))) (h n (omega arith) (λ q. other (sym q))) ∙ xor_zero_r (f i))

-- the first apart
pub total_first : (n : ℕ) (f : ℕ → ℕ) → total (suc n) f ≡ bit_xor (f 0) (total n (λ k. f (suc k)))
unfolding total
total_first zero f = sym (xor_zero_r (f 0))
total_first (suc n) f =
    ap (λ (x : ℕ). bit_xor x (f (suc n))) (total_first n f) ∙ xor_assoc (f 0) (total n (λ k. f (suc k))) (f (suc n))

-- ---- values

pub value_xor : (n j : ℕ) (c d : ℕ → ℕ) → value n j (λ k. bit_xor (c k) (d k)) ≡ bit_xor (value n j c) (value n j d)
unfolding value
value_xor n j c d =
    ap (total n) (fun_ext (λ k. xor_product (c k) (d k) (power (j * k))))
    ∙ total_xor n (λ k. product (c k) (power (j * k))) (λ k. product (d k) (power (j * k)))

pub value_only : (n j i : ℕ) (c : ℕ → ℕ) → i < n → ((k : ℕ) → k < n → (k ≡ i → ⊥) → c k ≡ 0) → value n j c ≡ product (c i) (power (j * i))
unfolding value
value_only n j i c l h =
    total_only n i (λ k. product (c k) (power (j * k))) l
    (λ k m ne. ap (λ (x : ℕ). product x (power (j * k))) (h k m ne) ∙ product-zero (power (j * k)))

-- each coefficient times the distance of its place from the place i: that at i is gone
abbrev pub faded : (ℕ → ℕ) → ℕ → ℕ → ℕ
faded c i k = product (c k) (bit_xor (power k) (power i))

value_faded : (n j i : ℕ) (c : ℕ → ℕ) → value n j (faded c i) ≡ bit_xor (value n (j + 1) c) (product (power i) (value n j c))
unfolding value
value_faded n j i c =
    ap (total n) (fun_ext each)
    ∙ total_xor n (λ k. product (c k) (power ((j + 1) * k))) (λ k. product (power i) (product (c k) (power (j * k))))
    ∙ ap (bit_xor (total n (λ k. product (c k) (power ((j + 1) * k))))) (total_times n (power i) (λ k. product (c k) (power (j * k))))
  where
    next : (k : ℕ) → product (power k) (power (j * k)) ≡ power ((j + 1) * k)
    next k = sym (power-add k (j * k)) ∙ ap power (add_comm k (j * k) ∙ ap (λ (x : ℕ). j * k + x) (sym (one-mul k)) ∙ sym (add-mul j 1 k))

    each : (k : ℕ) → product (faded c i k) (power (j * k))
        ≡ bit_xor (product (c k) (power ((j + 1) * k))) (product (power i) (product (c k) (power (j * k))))
    each k =
        ap (λ (x : ℕ). product x (power (j * k))) (product_xor (c k) (power k) (power i))
        ∙ xor_product (product (c k) (power k)) (product (c k) (power i)) (power (j * k))
        ∙ ap₂ bit_xor (product_assoc (c k) (power k) (power (j * k)) ∙ ap (product (c k)) (next k))
        (ap (λ (x : ℕ). product x (power (j * k))) (product_comm (c k) (power i)) ∙ product_assoc (power i) (c k) (power (j * k)))

-- ---- how many are not 0

unfoldable pub count : ℕ → (ℕ → ℕ) → ℕ
count zero c = 0
count (suc n) c = count n c + pick (eqb (c n) 0) 0 1

pub one_none : (x : ℕ) → x ≡ 0 → pick {A = ℕ} (eqb x 0) 0 1 ≡ 0
one_none x e = ap (λ (b : Bool). pick {A = ℕ} b 0 1) (eq-eqb x 0 e)

pub one_some : (x : ℕ) → (x ≡ 0 → ⊥) → pick {A = ℕ} (eqb x 0) 0 1 ≡ 1
one_some x e = ap (λ (b : Bool). pick {A = ℕ} b 0 1) (ne_eqb x 0 e)

-- where one is 0 the other is, so the other counts no more
one_le : (x y : ℕ) → (x ≡ 0 → y ≡ 0) → pick {A = ℕ} (eqb y 0) 0 1 ≤ pick {A = ℕ} (eqb x 0) 0 1
one_le x y h = test (eqb x 0) (λ e. omega (arith, one_none y (h (eqb-true x 0 e)))) (λ e. less (eqb-false x 0 e))
  where
    less : (x ≡ 0 → ⊥) → pick {A = ℕ} (eqb y 0) 0 1 ≤ pick {A = ℕ} (eqb x 0) 0 1
    less ne =
        test (eqb y 0) (λ f. omega (arith, one_none y (eqb-true y 0 f)))
        (λ f. omega (arith, one_some y (eqb-false y 0 f), one_some x ne))

count_le : (n : ℕ) (c d : ℕ → ℕ) → ((k : ℕ) → c k ≡ 0 → d k ≡ 0) → count n d ≤ count n c
unfolding count
count_le zero c d h = omega arith
count_le (suc n) c d h = omega (arith, count_le n c d h, one_le (c n) (d n) (h n))

pub count_lt : (n i : ℕ) (c d : ℕ → ℕ) → i < n → ((k : ℕ) → c k ≡ 0 → d k ≡ 0) → (c i ≡ 0 → ⊥) → d i ≡ 0 → count n d < count n c
unfolding count
count_lt zero i c d l h ne e = absurd (omega arith)
count_lt (suc n) i c d l h ne e =
    test (eqb i n)
    (λ t. let same : i ≡ n = eqb-true i n t in
    let none : d n ≡ 0 = subst (λ (k : ℕ). d k ≡ 0) same e in
    let some : c n ≡ 0 → ⊥ = subst (λ (k : ℕ). c k ≡ 0 → ⊥) same ne in
    omega (arith, count_le n c d h, one_none (d n) none, one_some (c n) some))
    (λ t. let other : i ≡ n → ⊥ = eqb-false i n t in
    omega (arith, count_lt n i c d (omega arith) h ne e, one_le (c n) (d n) (h n)))

one_most : (b : Bool) → pick {A = ℕ} b 0 1 ≤ 1
one_most true = omega arith
one_most false = omega arith

count_all : (n : ℕ) (c : ℕ → ℕ) → ((k : ℕ) → k < n → c k ≡ 0) → count n c ≡ 0
unfolding count
count_all zero c h = refl
count_all (suc n) c h = omega (arith, count_all n c (λ k l. h k (omega arith)), one_none (c n) (h n (omega arith)))

pub count_none : (n : ℕ) (c : ℕ → ℕ) → count n c ≤ 0 → (k : ℕ) → k < n → c k ≡ 0
unfolding count
count_none zero c h k l = absurd (omega arith)
count_none (suc n) c h k l =
    test (eqb (c n) 0)
    (λ t. test (eqb k n) (λ e. ap c (eqb-true k n e) ∙ eqb-true (c n) 0 t)
    (λ e. let other : k ≡ n → ⊥ = eqb-false k n e in
    count_none n c (omega arith) k (omega arith)))
    (λ t. absurd (omega (arith, one_some (c n) (eqb-false (c n) 0 t))))

pub count_only : (n i : ℕ) (c : ℕ → ℕ) → ((k : ℕ) → k < n → (k ≡ i → ⊥) → c k ≡ 0) → count n c ≤ 1
unfolding count
count_only zero i c h = omega arith
count_only (suc n) i c h =
    test (eqb n i)
    (λ t. let same : n ≡ i = eqb-true n i t in
    omega (arith, count_all n c (λ k l. h k (omega arith) (λ e. omega arith)), one_most (eqb (c n) 0)))
    (λ t. omega (arith, count_only n i c (λ k l. h k (omega arith)), one_none (c n) (h n (omega arith) (eqb-false n i t))))

-- two counts together are no less than that of the sums
pub count_xor : (n : ℕ) (c d : ℕ → ℕ) → count n (λ k. bit_xor (c k) (d k)) ≤ count n c + count n d
unfolding count
count_xor zero c d = omega arith
count_xor (suc n) c d = omega (arith, count_xor n c d, sum (c n) (d n))
  where
    sum : (x y : ℕ) → pick {A = ℕ} (eqb (bit_xor x y) 0) 0 1 ≤ pick {A = ℕ} (eqb x 0) 0 1 + pick {A = ℕ} (eqb y 0) 0 1
    sum x y =
        test (eqb x 0)
        (λ e. let z : x ≡ 0 = eqb-true x 0 e in
        rw (ap (λ (u : ℕ). bit_xor u y) z) (omega arith))
        (λ e. let most : pick {A = ℕ} (eqb (bit_xor x y) 0) 0 1 ≤ 1 = one_most (eqb (bit_xor x y) 0) in
        omega (arith, one_some x (eqb-false x 0 e)))

-- all are 0, or one is found that is not
pub find : (n : ℕ) (c : ℕ → ℕ) → ((k : ℕ) → k < n → c k ≡ 0) ⊎ ((k : ℕ) × (k < n) × (c k ≡ 0 → ⊥))
find zero c = inl (λ k l. absurd (omega arith))
find (suc n) c = go (find n c) (eqb (c n) 0) refl
  where
    go : ((k : ℕ) → k < n → c k ≡ 0) ⊎ ((k : ℕ) × (k < n) × (c k ≡ 0 → ⊥)) → (b : Bool) → eqb (c n) 0 ≡ b
        → ((k : ℕ) → k < suc n → c k ≡ 0) ⊎ ((k : ℕ) × (k < suc n) × (c k ≡ 0 → ⊥))
    go r false e = inr (n, omega arith, eqb-false (c n) 0 e)
    go (inr (k, l, ne)) true e = inr (k, omega arith, ne)
    go (inl all) true e =
        inl (λ k l. test (eqb k n) (λ t. ap c (eqb-true k n t) ∙ eqb-true (c n) 0 e)
        (λ t. let other : k ≡ n → ⊥ = eqb-false k n t in
        all k (omega arith)))

-- ---- the least distance

abbrev Light : ℕ → ℕ → Type 0
Light m n =
    (c : ℕ → ℕ) → ((k : ℕ) → c k < 16) → count m c ≤ n → ((j : ℕ) → j < n → value m (6 + j) c ≡ 0) → (k : ℕ) → k < m → c k ≡ 0

light_next : (m n : ℕ) → m ≤ 15 → Light m n → Light m (suc n)
light_next m n hm ih c hc few roots = go (find m c)
  where
    go : ((k : ℕ) → k < m → c k ≡ 0) ⊎ ((k : ℕ) × (k < m) × (c k ≡ 0 → ⊥)) → (k : ℕ) → k < m → c k ≡ 0
    go (inl all) = all
    go (inr (i, l, ne)) = absurd (ne here)
      where
        fewer : count m (faded c i) < count m c
        fewer =
            count_lt m i c (faded c i) l
            (λ k e. ap (λ (x : ℕ). product x (bit_xor (power k) (power i))) e ∙ product-zero (bit_xor (power k) (power i))) ne
            (ap (product (c i)) (xor_self (power i)) ∙ zero-product (c i))

        gone : (k : ℕ) → k < m → faded c i k ≡ 0
        gone =
            ih (faded c i) (λ k. product_lt (c k) (bit_xor (power k) (power i))) (omega (arith, fewer))
            (λ j h. value_faded m (6 + j) i c
            ∙ ap₂ bit_xor (subst (λ (x : ℕ). value m x c ≡ 0) (omega arith) (roots (j + 1) (omega arith)))
            (ap (product (power i)) (roots j (omega arith)) ∙ zero-product (power i)))

        others : (k : ℕ) → k < m → (k ≡ i → ⊥) → c k ≡ 0
        others k h other =
            no_factor (c k) (bit_xor (power k) (power i)) (hc k) (xor_lt 4 (power k) (power i) (power_lt k) (power_lt i))
            (powers_apart k i (omega arith) (omega arith) other) (gone k h)

        here : c i ≡ 0
        here =
            no_factor (c i) (power (6 * i)) (hc i) (power_lt (6 * i)) (power_some (6 * i))
            (sym (value_only m 6 i c l others) ∙ roots 0 (omega arith))

pub light : (m : ℕ) → m ≤ 15 → (n : ℕ) → Light m n
light m hm zero = λ c hc few roots. count_none m c few
light m hm (suc n) = light_next m n hm (light m hm n)
