-- The vectors: what is written by computing, what is read by its distance, and what is refused by its values.
-- Assumes nothing.
use mathlib.Core.Path.{◌≡◌, refl, sym, ap, ap₂, ◌∙◌, subst}
use mathlib.Core.List.{[], ◌∷◌}
use mathlib.Core.Bool.{Bool, true, false, not}
use Prim.Native.Nat.{ℕ, ◌+◌, ◌*◌, ◌^◌, ◌<◌, ◌≤◌}
use native.Mathlib.Omega.{arith}
use lib.Dec.{eqb, ltb, leb}
use lib.Bits.{bit_xor, xor_comm}
use borrow.Author.Tests.{eq-eqb, eqb-true, ltb-true, leb-true, not-true}
use Rattle.octets.specs.Basics.{pick, and, or}
use Rattle.octets.proofs.Choices.{apart, and_true}
use Rattle.octets.proofs.Every.{below, at, at3}
use Rattle.repair.proofs.Sums.{xor_twice}
use Rattle.words.specs.Fields.{field}
use Rattle.repair.specs.Field.{times_root, power, product_from, product}
use Rattle.repair.specs.Code.{symbol, divided, remainder, four, checks, distance, Near}
use Rattle.repair.specs.Values.{total, value}
use Rattle.repair.specs.Header.{six_of, header_checks, covered, header_of, header_reading}
use Rattle.repair.specs.Vectors.{says, beyond_repair, Vectors}
use Rattle.repair.proofs.Laws.{swap, power-add}
use Rattle.repair.proofs.Words.{symbol_lt, apart_count, two_places}
use Rattle.repair.proofs.Nearest.{right_lt}
use Rattle.repair.proofs.Mending.{left_over}
use Rattle.repair.proofs.Absent.{absent_refused}
use Rattle.repair.proofs.Headers.{header_as_sent, header_refused}

-- ---- read as sent

abbrev sent_test : ℕ → ℕ → ℕ → Bool
sent_test sent head after =
    and (and (ltb sent (2 ^ 48)) (ltb head (2 ^ 48)))
    (and (eqb (field head 8 24) (field sent 8 24)) (leb (distance 10 (covered head after) (covered sent (header_checks sent))) 2))

read_by : (sent head after : ℕ) → sent_test sent head after ≡ true → header_reading head after ≡ says sent
read_by sent head after t =
    let a = and_true _ _ t in
    let short = and_true _ _ a.0 in
    let near = and_true _ _ a.1 in
    header_as_sent sent head after (ltb-true _ _ short.0) (ltb-true _ _ short.1) (eqb-true _ _ near.0) (leb-true _ _ near.1)

-- ---- refused, as the change is to a symbol that is absent

abbrev absent_test : ℕ → ℕ → ℕ → ℕ → ℕ → Bool
absent_test w i x q y =
    below 4 (λ j. eqb (value 10 (6 + j) (λ k. symbol k w)) (bit_xor (product x (power ((6 + j) * i))) (product y (power ((6 + j) * q)))))

absent_by : (head after i x q y : ℕ) → covered head after < 16 ^ 10 → 10 ≤ i → i < 15 → 0 < x → x < 16 → q < 15 → y < 16 → (i ≡ q → ⊥)
    → absent_test (covered head after) i x q y ≡ true → header_reading head after ≡ beyond_repair
unfolding header_reading header_of
absent_by head after i x q y short a b c d e f g t =
    ap (header_of head)
    (absent_refused (covered head after) i x q y short a b c d e f g
    (λ j h. eqb-true _ _
    (at 4 (λ j. eqb (value 10 (6 + j) (λ k. symbol k (covered head after))) (bit_xor (product x (power ((6 + j) * i))) (product y (power ((6 + j) * q))))) t j h)))

-- ---- refused, as no two changes have these values

-- what is left of a value without a change by x at p
abbrev left : ℕ → ℕ → ℕ → ℕ → ℕ
left j s p x = bit_xor s (product x (power (j * p)))

abbrev explained : ℕ → ℕ → ℕ → ℕ → ℕ → ℕ → ℕ → Bool
explained six seven eight nine q p x =
    and (eqb (product (power q) (left 6 six p x)) (left 7 seven p x))
    (and (eqb (product (power q) (left 7 seven p x)) (left 8 eight p x)) (eqb (product (power q) (left 8 eight p x)) (left 9 nine p x)))

abbrev none_explains : ℕ → ℕ → ℕ → ℕ → Bool
none_explains six seven eight nine = below 10 (λ q. below 10 (λ p. below 16 (λ x. or (leb q p) (not (explained six seven eight nine q p x)))))

module _ (w six seven eight nine : ℕ) (short : w < 16 ^ 10) (e6 : value 10 6 (λ k. symbol k w) ≡ six) (e7 : value 10 7 (λ k. symbol k w) ≡ seven)
    (e8 : value 10 8 (λ k. symbol k w) ≡ eight) (e9 : value 10 9 (λ k. symbol k w) ≡ nine) (t : none_explains six seven eight nine ≡ true)
    (v : ℕ) (near : Near w v) where
  module _ (p q : ℕ) (pq : p < q) (hq : q < 10) (agree : (k : ℕ) → k < 10 → (k ≡ p → ⊥) → (k ≡ q → ⊥) → symbol k (bit_xor w v) ≡ 0) where
    x : ℕ
    x = symbol p (bit_xor w v)

    y : ℕ
    y = symbol q (bit_xor w v)

    -- the other change is all that is left
    other : (j s : ℕ) → j < 4 → value 10 (6 + j) (λ k. symbol k w) ≡ s → left (6 + j) s p x ≡ product y (power ((6 + j) * q))
    unfolding x y
    other j s h e =
        let change : ℕ = product (symbol p (bit_xor w v)) (power ((6 + j) * p)) in
        ap (λ (n : ℕ). bit_xor n change)
        (sym e ∙ left_over w v p q short (right_lt v near.right) (omega arith) hq (λ f. omega arith) agree near.right j h)
        ∙ xor_comm _ change ∙ xor_twice change _

    next : (j : ℕ) → product (power q) (product y (power (j * q))) ≡ product y (power ((j + 1) * q))
    next j =
        let e : q + j * q ≡ (j + 1) * q = omega arith in
        swap (power q) y (power (j * q)) ∙ ap (product y) (sym (power-add q (j * q)) ∙ ap power e)

    -- so these two explain the values
    explains : explained six seven eight nine q p x ≡ true
    explains =
        rw (
          eq-eqb _ _ (step 0 six seven (omega arith) (omega arith) e6 e7),
          eq-eqb _ _ (step 1 seven eight (omega arith) (omega arith) e7 e8),
          eq-eqb _ _ (step 2 eight nine (omega arith) (omega arith) e8 e9),
        ) refl
      where
        step : (j s u : ℕ) → j < 4 → j + 1 < 4 → value 10 (6 + j) (λ k. symbol k w) ≡ s → value 10 (6 + (j + 1)) (λ k. symbol k w) ≡ u
            → product (power q) (left (6 + j) s p x) ≡ left (6 + (j + 1)) u p x
        step j s u h i e f =
            let more : 6 + j + 1 ≡ 6 + (j + 1) = omega arith in
            ap (product (power q)) (other j s h e) ∙ next (6 + j) ∙ ap (λ (n : ℕ). product y (power (n * q))) more ∙ sym (other (j + 1) u i f)

    contradicts : ⊥
    unfolding x
    contradicts =
        go (leb q p) refl
        (at3 10 10 16 (λ q p x. or (leb q p) (not (explained six seven eight nine q p x))) t q p x hq (omega arith) (symbol_lt p (bit_xor w v)))
      where
        go : (b : Bool) → leb q p ≡ b → or b (not (explained six seven eight nine q p x)) ≡ true → ⊥
        go true e k = let le : q ≤ p = leb-true q p e in omega arith
        go false e k = apart (ap (λ (b : Bool). pick {A = ℕ} b 1 0) (sym (not-true _ k) ∙ explains))

  pub unexplained : ⊥
  unexplained = go (two_places (λ k. symbol k (bit_xor w v)) (subst (λ (d : ℕ). d ≤ 2) (apart_count 10 w v) near.close))
    where
      go : (p : ℕ) × (q : ℕ) × (p < q) × (q < 10) × ((k : ℕ) → k < 10 → (k ≡ p → ⊥) → (k ≡ q → ⊥) → symbol k (bit_xor w v) ≡ 0) → ⊥
      go (p, q, pq, hq, agree) = contradicts p q pq hq agree

three_explains : none_explains 13 5 2 11 ≡ true
unfolding product product_from power times_root
three_explains = refl

-- ----

pub vectors : Vectors
unfolding header_checks six_of field covered checks four remainder divided distance symbol value total product product_from power times_root
vectors = record {
  powers = refl;
  written = refl;
  undamaged = read_by 0x42C112345680 0x42C112345680 0xFDBA refl;
  first_changed = read_by 0x508300000000 0xA08300000000 0x27EE refl;
  last_changed = read_by 0x508300000000 0x508300000000 0x27EF refl;
  two_changed = read_by 0x508300000000 0x5F7300000000 0x27EE refl;
  checks_changed = read_by 0x508300000000 0x508300000000 0x281E refl;
  count_changed = read_by 0x508300FF0000 0x508300FF0000 0x27EE refl;
  three_changed =
      header_refused 0x419300000000 0x27EE
      (unexplained (covered 0x419300000000 0x27EE) 13 5 2 11 (omega arith) refl refl refl refl three_explains);
  misread = read_by 0x418300000000 0x418300000000 0x2BEE refl;
  absent =
      ap₂ ◌∷◌ (absent_by 0x508300000000 0x3D13 10 1 0 0 (omega arith) (omega arith) (omega arith) (omega arith) (omega arith) (omega arith) (omega arith) (λ e. omega arith) refl)
      (ap₂ ◌∷◌ (absent_by 0x508300000000 0xBFDD 12 8 0 0 (omega arith) (omega arith) (omega arith) (omega arith) (omega arith) (omega arith) (omega arith) (λ e. omega arith) refl)
      (ap₂ ◌∷◌ (absent_by 0x508300000000 0xD63F 14 15 0 0 (omega arith) (omega arith) (omega arith) (omega arith) (omega arith) (omega arith) (omega arith) (λ e. omega arith) refl)
      (ap (◌∷ []) (absent_by 0x508300000000 0x682D 13 9 0 4 (omega arith) (omega arith) (omega arith) (omega arith) (omega arith) (omega arith) (omega arith) (λ e. omega arith) refl))));
  absent_and_first =
      absent_by 0x208300000000 0x431D 11 3 9 7 (omega arith) (omega arith) (omega arith) (omega arith) (omega arith) (omega arith) (omega arith)
      (λ e. omega arith) refl;
}
