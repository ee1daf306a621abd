-- Words and their symbols: sums of words, words with one symbol, and what tells two words apart.
-- Assumes nothing.
use mathlib.Core.Path.{◌≡◌, refl, sym, ap, ap₂, ◌∙◌, subst}
use mathlib.Core.Logic.{◌⊎◌, inl, inr}
use mathlib.Core.Bool.{Bool, true}
use Prim.Native.Nat.{ℕ, zero, suc, ◌+◌, ◌*◌, ◌/◌, ◌%◌, ◌^◌, ◌<◌, ◌≤◌}
use native.Mathlib.Nat.{div-one, pow-suc}
use native.Mathlib.Omega.{arith}
use lib.Dec.{eqb}
use lib.Pow.{shr-shr}
use lib.Bits.{bit_xor, xor_shr, xor_mod, xor_self}
use borrow.Author.Tests.{eqb-true, eqb-false, eq-eqb, ne_eqb}
use Rattle.octets.specs.Basics.{pick}
use Rattle.words.specs.Fields.{field}
use Rattle.octets.proofs.Tests.{test}
use Rattle.octets.proofs.Choices.{eqb_iff, split}
use Rattle.repair.specs.Code.{symbol, distance}
use Rattle.octets.proofs.Every.{below, at3}
use Rattle.octets.proofs.Sums.{xor_apart}
use Rattle.repair.proofs.Values.{count, count_lt, count_none, find}

pub symbol_lt : (k w : ℕ) → symbol k w < 16
unfolding symbol field
symbol_lt k w = omega arith

pub symbol_first : (w : ℕ) → symbol 0 w ≡ w % 16
unfolding symbol field
symbol_first w = ap (λ (x : ℕ). x % 16) (div-one w)

pub symbol_next : (k w : ℕ) → symbol (suc k) w ≡ symbol k (w / 16)
unfolding symbol field
symbol_next k w =
    let e : 4 * suc k ≡ 4 + 4 * k = omega arith in
    ap (λ (n : ℕ). w / 2 ^ n % 16) e ∙ ap (λ (x : ℕ). x % 16) (sym (shr-shr w 4 (4 * k)))

-- a sum has the sums of the symbols
pub symbol_xor : (k u v : ℕ) → symbol k (bit_xor u v) ≡ bit_xor (symbol k u) (symbol k v)
unfolding symbol field
symbol_xor k u v = ap (λ (x : ℕ). x % 16) (xor_shr u v (4 * k)) ∙ xor_mod (u / 2 ^ (4 * k)) (v / 2 ^ (4 * k)) 4

-- numbers of n digits with the same symbols are the same
pub same_symbols : (n u v : ℕ) → u < 16 ^ n → v < 16 ^ n → ((k : ℕ) → k < n → symbol k u ≡ symbol k v) → u ≡ v
same_symbols zero u v hu hv h = omega arith
same_symbols (suc n) u v hu hv h =
    let first : u % 16 ≡ v % 16 = sym (symbol_first u) ∙ h 0 (omega arith) ∙ symbol_first v in
    let rest : u / 16 ≡ v / 16 =
    same_symbols n (u / 16) (v / 16) (part u hu) (part v hv) (λ k l. sym (symbol_next k u) ∙ h (suc k) (omega arith) ∙ symbol_next k v) in
    omega arith
  where
    part : (w : ℕ) → w < 16 ^ suc n → w / 16 < 16 ^ n
    part w l = omega (arith, subst (λ (x : ℕ). w < x) (pow-suc 16 n) l)

-- a word with one symbol
unit_test : below 10 (λ i. below 10 (λ k. below 16 (λ x. eqb (symbol k (x * 2 ^ (4 * i))) (pick (eqb k i) x 0)))) ≡ true
unfolding symbol field
unit_test = refl

pub unit_at : (i k x : ℕ) → i < 10 → k < 10 → x < 16 → symbol k (x * 2 ^ (4 * i)) ≡ pick (eqb k i) x 0
unit_at i k x hi hk hx =
    eqb-true _ _ (at3 10 10 16 (λ i k x. eqb (symbol k (x * 2 ^ (4 * i))) (pick (eqb k i) x 0)) unit_test i k x hi hk hx)

-- a word does not differ from itself
pub distance_none : (n u : ℕ) → distance n u u ≡ 0
unfolding distance
distance_none zero u = refl
distance_none (suc n) u =
    ap₂ (λ (d : ℕ) (b : Bool). d + pick {A = ℕ} b 0 1) (distance_none n u) (eq-eqb (symbol n u) (symbol n u) refl)

-- words differ where their sum is not 0
pub apart_count : (n u v : ℕ) → distance n u v ≡ count n (λ k. symbol k (bit_xor u v))
unfolding distance count
apart_count zero u v = refl
apart_count (suc n) u v =
    ap₂ (λ (x : ℕ) (b : Bool). x + pick {A = ℕ} b 0 1) (apart_count n u v)
    (eqb_iff (symbol n u) (symbol n v) (symbol n (bit_xor u v)) 0
    (λ e. symbol_xor n u v ∙ ap (λ (x : ℕ). bit_xor x (symbol n v)) e ∙ xor_self (symbol n v))
    (λ e. xor_apart (symbol n u) (symbol n v) (sym (symbol_xor n u v) ∙ e)))

-- ---- at most two that are not 0 stand at two places

-- all but that at i
abbrev cleared : (ℕ → ℕ) → ℕ → ℕ → ℕ
cleared c i k = pick (eqb k i) 0 (c k)

abbrev Elsewhere : (ℕ → ℕ) → ℕ → ℕ → Type 0
Elsewhere c p q = (k : ℕ) → k < 10 → (k ≡ p → ⊥) → (k ≡ q → ⊥) → c k ≡ 0

abbrev pub Places : (ℕ → ℕ) → Type 0
Places c = (p : ℕ) × (q : ℕ) × (p < q) × (q < 10) × Elsewhere c p q

module _ (c : ℕ → ℕ) (i : ℕ) where
  pub cleared_other : (k : ℕ) → (k ≡ i → ⊥) → cleared c i k ≡ c k
  cleared_other k ne = ap (λ (b : Bool). pick b 0 (c k)) (ne_eqb k i ne)

  cleared_here : cleared c i i ≡ 0
  cleared_here = ap (λ (b : Bool). pick b 0 (c i)) (eq-eqb i i refl)

  cleared_none : (k : ℕ) → c k ≡ 0 → cleared c i k ≡ 0
  cleared_none k e =
      test (eqb k i) (λ t. ap (λ (b : Bool). pick b 0 (c k)) t) (λ t. ap (λ (b : Bool). pick b 0 (c k)) t ∙ e)

  fewer : (n : ℕ) → i < 10 → (c i ≡ 0 → ⊥) → count 10 c ≤ suc n → count 10 (cleared c i) ≤ n
  fewer n l ne few = omega (arith, count_lt 10 i c (cleared c i) l cleared_none ne cleared_here)

-- in order
ordered : (c : ℕ → ℕ) (p q : ℕ) → p < 10 → q < 10 → (p ≡ q → ⊥) → Elsewhere c p q → Places c
ordered c p q hp hq ne h =
    split p q (λ l. (p, q, omega arith, hq, h)) (λ l. (q, p, l, hp, λ k m a b. h k m b a))

-- one place, and another if it must be
with_one : (c : ℕ → ℕ) (p : ℕ) → p < 10 → ((k : ℕ) → k < 10 → (k ≡ p → ⊥) → c k ≡ 0) → Places c
with_one c p hp h =
    test (eqb p 0)
    (λ t. let e : p ≡ 0 = eqb-true p 0 t in
    ordered c p 1 hp (omega arith) (λ f. omega arith) (λ k m a b. h k m a))
    (λ t. ordered c p 0 hp (omega arith) (eqb-false p 0 t) (λ k m a b. h k m a))

pub two_places : (c : ℕ → ℕ) → count 10 c ≤ 2 → Places c
two_places c few = go (find 10 c)
  where
    go : ((k : ℕ) → k < 10 → c k ≡ 0) ⊎ ((k : ℕ) × (k < 10) × (c k ≡ 0 → ⊥)) → Places c
    go (inl all) = with_one c 0 (omega arith) (λ k m a. all k m)
    go (inr (i, l, ne)) = next (find 10 (cleared c i))
      where
        next : ((k : ℕ) → k < 10 → cleared c i k ≡ 0) ⊎ ((k : ℕ) × (k < 10) × (cleared c i k ≡ 0 → ⊥)) → Places c
        next (inl all) = with_one c i l (λ k m a. sym (cleared_other c i k a) ∙ all k m)
        next (inr (j, m, some)) =
            ordered c i j l m (λ e. some (subst (λ (x : ℕ). cleared c i x ≡ 0) e (cleared_here c i)))
            (λ k h a b. sym (cleared_other c i k a) ∙ sym (cleared_other (cleared c i) j k b)
            ∙ count_none 10 (cleared (cleared c i) j) (fewer (cleared c i) j 0 m some (fewer c i 1 l ne few)) k h)
