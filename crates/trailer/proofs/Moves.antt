-- Moves of the register: sums of registers move as sums, no register but 0 moves to 0, and what some bits do to a register.
-- Assumes nothing.
use mathlib.Core.Path.{◌≡◌, refl, sym, ap, ap₂, ◌∙◌, subst, subst⁻¹}
use mathlib.Core.List.{List, [], ◌∷◌, ◌++◌}
use Prim.Native.Nat.{ℕ, zero, suc, ◌+◌, ◌-◌, ◌*◌, ◌/◌, ◌%◌, ◌^◌, ◌<◌, ◌≤◌}
use native.Mathlib.Nat.{mod-eq_of_lt, add-zero, zero-add, add-mul, mul_assoc, mul-le-mul_left, mul-le-mul_right, le_of_suc-le-suc, pow-suc, pow-succ'}
use native.Mathlib.Omega.{arith}
use lib.Dec.{eqb, ltb}
use lib.ListN.{length}
use lib.Pow.{pow-add, pow_pos, shl_lt, mod-pow-add}
use lib.Bits.{bit_xor, xor_shr, xor_mod, xor_block, xor_shifted, xor_lt, xor_zero_r}
use borrow.Author.Tests.{eqb-true, ltb-true, ltb-false, lt-ltb, le-ltb}
use Rattle.octets.specs.Basics.{All}
use Rattle.octets.proofs.Every.{at2}
use Rattle.octets.proofs.Sums.{xor_assoc, crosswise, xor_apart}
use Rattle.octets.proofs.Tests.{test}
use Rattle.trailer.specs.Division.{generator, moved, step, divided, bits}

-- the generator without X^16
abbrev pub lower_terms : ℕ
lower_terms = 2 ^ 12 + 2 ^ 5 + 1

-- ---- one move

pub moved_low : (r : ℕ) → r < 2 ^ 15 → moved r ≡ r * 2
unfolding moved
moved_low r h = rw (lt-ltb r (2 ^ 15) h)

pub moved_top : (r : ℕ) → 2 ^ 15 ≤ r → moved r ≡ bit_xor (r * 2) generator
unfolding moved
moved_top r h = rw (le-ltb r (2 ^ 15) h)

-- within 16 bits: X^16 falls off, and the generator's other terms are added
moved_within : (r : ℕ) → r < 2 ^ 16 → moved r ≡ bit_xor (r * 2 % 2 ^ 16) (r / 2 ^ 15 * lower_terms)
moved_within r h =
    test (ltb r (2 ^ 15))
    (λ t. let l : r < 2 ^ 15 = ltb-true r (2 ^ 15) t in
    let a : r * 2 % 2 ^ 16 ≡ r * 2 = omega arith in
    let b : r / 2 ^ 15 ≡ 0 = omega arith in
    moved_low r l ∙ sym (ap₂ (λ (x y : ℕ). bit_xor x (y * lower_terms)) a b ∙ xor_zero_r (r * 2)))
    (λ t. let l : 2 ^ 15 ≤ r = ltb-false r (2 ^ 15) t in
    let a : r * 2 ≡ 1 * 2 ^ 16 + r * 2 % 2 ^ 16 = omega arith in
    let b : r / 2 ^ 15 ≡ 1 = omega arith in
    moved_top r l ∙ ap (λ (x : ℕ). bit_xor x (1 * 2 ^ 16 + lower_terms)) a
    ∙ xor_block 16 1 1 (r * 2 % 2 ^ 16) lower_terms (omega arith) (omega arith) ∙ zero-add (bit_xor (r * 2 % 2 ^ 16) lower_terms)
    ∙ sym (ap (λ (y : ℕ). bit_xor (r * 2 % 2 ^ 16) (y * lower_terms)) b))

pub moved_lt : (r : ℕ) → r < 2 ^ 16 → moved r < 2 ^ 16
moved_lt r h =
    subst⁻¹ (λ (x : ℕ). x < 2 ^ 16) (moved_within r h) (xor_lt 16 (r * 2 % 2 ^ 16) (r / 2 ^ 15 * lower_terms) (omega arith) (omega arith))

digit_times : (x y : ℕ) → x < 2 → y < 2 → bit_xor x y * lower_terms ≡ bit_xor (x * lower_terms) (y * lower_terms)
digit_times x y hx hy = eqb-true _ _ (at2 2 2 (λ x y. eqb (bit_xor x y * lower_terms) (bit_xor (x * lower_terms) (y * lower_terms))) refl x y hx hy)

-- SUMS MOVE AS SUMS
pub moved_xor : (a b : ℕ) → a < 2 ^ 16 → b < 2 ^ 16 → moved (bit_xor a b) ≡ bit_xor (moved a) (moved b)
moved_xor a b ha hb =
    moved_within (bit_xor a b) (xor_lt 16 a b ha hb)
    ∙ ap₂ bit_xor
    (ap (λ (x : ℕ). x % 2 ^ 16) double ∙ xor_mod (a * 2) (b * 2) 16)
    (ap (λ (x : ℕ). x * lower_terms) (xor_shr a b 15) ∙ digit_times (a / 2 ^ 15) (b / 2 ^ 15) (omega arith) (omega arith))
    ∙ crosswise (a * 2 % 2 ^ 16) (b * 2 % 2 ^ 16) (a / 2 ^ 15 * lower_terms) (b / 2 ^ 15 * lower_terms)
    ∙ sym (ap₂ bit_xor (moved_within a ha) (moved_within b hb))
  where
    double : bit_xor a b * 2 ≡ bit_xor (a * 2) (b * 2)
    double =
        sym (add-zero (bit_xor a b * 2)) ∙ sym (xor_block 1 a b 0 0 (omega arith) (omega arith)) ∙ ap₂ bit_xor (add-zero (a * 2)) (add-zero (b * 2))

-- NOTHING BUT 0 MOVES TO 0
pub moved_none : (r : ℕ) → r < 2 ^ 16 → moved r ≡ 0 → r ≡ 0
moved_none r h e =
    test (ltb r (2 ^ 15))
    (λ t. let d : r * 2 ≡ 0 = sym (moved_low r (ltb-true r (2 ^ 15) t)) ∙ e in
    omega arith)
    (λ t. let d : r * 2 ≡ generator = xor_apart (r * 2) generator (sym (moved_top r (ltb-false r (2 ^ 15) t)) ∙ e) in
    omega arith)

-- ---- several moves

unfoldable pub moves : ℕ → ℕ → ℕ
moves zero r = r
moves (suc n) r = moves n (moved r)

pub moves_lt : (n r : ℕ) → r < 2 ^ 16 → moves n r < 2 ^ 16
unfolding moves
moves_lt zero r h = h
moves_lt (suc n) r h = moves_lt n (moved r) (moved_lt r h)

pub moves_xor : (n a b : ℕ) → a < 2 ^ 16 → b < 2 ^ 16 → moves n (bit_xor a b) ≡ bit_xor (moves n a) (moves n b)
unfolding moves
moves_xor zero a b ha hb = refl
moves_xor (suc n) a b ha hb = ap (moves n) (moved_xor a b ha hb) ∙ moves_xor n (moved a) (moved b) (moved_lt a ha) (moved_lt b hb)

pub moves_none : (n r : ℕ) → r < 2 ^ 16 → moves n r ≡ 0 → r ≡ 0
unfolding moves
moves_none zero r h e = e
moves_none (suc n) r h e = moved_none r h (moves_none n (moved r) (moved_lt r h) e)

pub moves_nothing : (n : ℕ) → moves n 0 ≡ 0
unfolding moves moved
moves_nothing zero = refl
moves_nothing (suc n) = moves_nothing n

-- what does not reach the top is only moved up
pub moves_up : (n r : ℕ) → r * 2 ^ n < 2 ^ 16 → moves n r ≡ r * 2 ^ n
unfolding moves
moves_up zero r h = omega arith
moves_up (suc n) r h =
    let e : r * 2 ^ suc n ≡ r * 2 * 2 ^ n = up n r in
    let l : r * 2 * 2 ^ n < 2 ^ 16 = subst (λ (x : ℕ). x < 2 ^ 16) e h in
    ap (moves n) (moved_low r (small n r l)) ∙ moves_up n (r * 2) l ∙ sym e
  where
    up : (n r : ℕ) → r * 2 ^ suc n ≡ r * 2 * 2 ^ n
    up n r = ap (λ (x : ℕ). r * x) (pow-succ' 2 n) ∙ sym (mul_assoc r 2 (2 ^ n))

    small : (n r : ℕ) → r * 2 * 2 ^ n < 2 ^ 16 → r < 2 ^ 15
    small n r h = omega (arith, mul-le-mul_left (r * 2) (pow_pos n))

-- ---- bits

-- the number that bits make, the most significant first
unfoldable pub value : List ℕ → ℕ
value [] = 0
value (b ∷ bs) = b * 2 ^ length bs + value bs

abbrev pub Bits : List ℕ → Type 0
Bits bs = All (λ b. b < 2) bs

pub value_lt : (bs : List ℕ) → Bits bs → value bs < 2 ^ length bs
unfolding value
value_lt [] h = omega arith
value_lt (b ∷ bs) h =
    omega (arith, value_lt bs h.1, pow-suc 2 (length bs), mul-le-mul_right (2 ^ length bs) (le_of_suc-le-suc h.0))

pub length-bits : (n v : ℕ) → length (bits n v) ≡ n
unfolding bits
length-bits zero v = refl
length-bits (suc n) v = ap suc (length-bits n v)

pub bits_bits : (n v : ℕ) → Bits (bits n v)
unfolding bits
bits_bits zero v = tt
bits_bits (suc n) v = (omega arith, bits_bits n v)

pub value_bits : (n v : ℕ) → value (bits n v) ≡ v % 2 ^ n
unfolding value bits
value_bits zero v = omega arith
value_bits (suc n) v =
    ap₂ (λ (k x : ℕ). v / 2 ^ n % 2 * 2 ^ k + x) (length-bits n v) (value_bits n v)
    ∙ sym (ap (λ (k : ℕ). v % 2 ^ k) (omega arith) ∙ mod-pow-add v 1 n)

-- ---- what bits do to a register

pub step_lt : (r b : ℕ) → r < 2 ^ 16 → b < 2 → step r b < 2 ^ 16
unfolding step
step_lt r b hr hb = moved_lt (bit_xor r (b * 2 ^ 15)) (xor_lt 16 r (b * 2 ^ 15) hr (omega arith))

pub divided_lt : (r : ℕ) (bs : List ℕ) → r < 2 ^ 16 → Bits bs → divided r bs < 2 ^ 16
unfolding divided
divided_lt r [] hr hb = hr
divided_lt r (b ∷ bs) hr hb = divided_lt (step r b) bs (step_lt r b hr hb.0) hb.1

-- UP TO SIXTEEN BITS, AT ONCE: they are added to the top of the register, and it is moved as often
pub taken : (r : ℕ) (bs : List ℕ) → r < 2 ^ 16 → Bits bs → length bs ≤ 16
    → divided r bs ≡ moves (length bs) (bit_xor r (value bs * 2 ^ (16 - length bs)))
unfolding divided moves value step
taken r [] hr hb h = sym (xor_zero_r r)
taken r (b ∷ bs) hr hb h =
    taken (step r b) bs (step_lt r b hr hb.0) hb.1 (omega arith)
    ∙ ap (moves n) (ap (bit_xor (step r b)) (sym (again)) ∙ sym (moved_xor (bit_xor r (b * 2 ^ 15)) w (xor_lt 16 r (b * 2 ^ 15) hr top) small)
    ∙ ap moved (xor_assoc r (b * 2 ^ 15) w ∙ ap (bit_xor r) (xor_shifted b 15 w low ∙ sym whole)))
  where
    n : ℕ
    n = length bs

    k : ℕ
    k = 16 - suc n

    w : ℕ
    w = value bs * 2 ^ k

    all : n + k ≡ 15
    all = omega arith

    low : w < 2 ^ 15
    low = subst (λ (m : ℕ). w < 2 ^ m) all (shl_lt n k (value_lt bs hb.1))

    small : w < 2 ^ 16
    small = omega (arith, low)

    top : b * 2 ^ 15 < 2 ^ 16
    top = omega (arith, hb.0)

    again : moved w ≡ value bs * 2 ^ (16 - n)
    again =
        moved_low w low ∙ mul_assoc (value bs) (2 ^ k) 2
        ∙ ap (λ (x : ℕ). value bs * x) (sym (pow-suc 2 k) ∙ ap (λ (m : ℕ). 2 ^ m) (omega arith))

    whole : (b * 2 ^ n + value bs) * 2 ^ k ≡ b * 2 ^ 15 + w
    whole =
        add-mul (b * 2 ^ n) (value bs) (2 ^ k)
        ∙ ap (λ (x : ℕ). x + w) (mul_assoc b (2 ^ n) (2 ^ k) ∙ ap (λ (x : ℕ). b * x) (sym (pow-add 2 n k) ∙ ap (λ (m : ℕ). 2 ^ m) all))

-- the same of the bits of a number
pub taken_bits : (n r v : ℕ) → r < 2 ^ 16 → n ≤ 16 → v < 2 ^ n → divided r (bits n v) ≡ moves n (bit_xor r (v * 2 ^ (16 - n)))
taken_bits n r v hr hn hv =
    taken r (bits n v) hr (bits_bits n v) (subst⁻¹ (λ (m : ℕ). m ≤ 16) (length-bits n v) hn)
    ∙ ap₂ (λ (m x : ℕ). moves m (bit_xor r (x * 2 ^ (16 - m)))) (length-bits n v) (value_bits n v ∙ mod-eq_of_lt hv)

-- the bits of two lists, one after the other
pub divided-append : (r : ℕ) (xs ys : List ℕ) → divided r (xs ++ ys) ≡ divided (divided r xs) ys
unfolding divided
divided-append r [] ys = refl
divided-append r (x ∷ xs) ys = divided-append (step r x) xs ys
