-- Sums of bits: the remainder of a sum is the sum of the remainders.
-- Assumes nothing.
use mathlib.Core.Path.{◌≡◌, refl, sym, ap, ap₂, ◌∙◌}
use mathlib.Core.List.{List, [], ◌∷◌, ◌++◌}
use Prim.Native.Nat.{ℕ, zero, suc, ◌+◌, ◌*◌, ◌/◌, ◌%◌, ◌^◌, ◌<◌}
use native.Mathlib.Nat.{add-zero}
use native.Mathlib.Omega.{arith}
use lib.ListN.{length, get_or, length-append}
use lib.Bits.{bit_xor, xor_lt, xor_block, xor_shr, xor_mod}
use Rattle.octets.proofs.Sums.{crosswise}
use Rattle.trailer.specs.Division.{preset, moved, step, divided, bits, all_bits, remainder}
use Rattle.trailer.specs.Printed.{sums}
use Rattle.trailer.proofs.Moves.{Bits, moved_xor, step_lt, length-bits}
use Rattle.trailer.proofs.Remainders.{all_bits_bits}

pub sums_at : (xs ys : List ℕ) → length xs ≡ length ys → (i : ℕ) → get_or (sums xs ys) i 0 ≡ bit_xor (get_or xs i 0) (get_or ys i 0)
unfolding sums
sums_at [] [] e i = refl
sums_at [] (y ∷ ys) e i = absurd (omega arith)
sums_at (x ∷ xs) [] e i = absurd (omega arith)
sums_at (x ∷ xs) (y ∷ ys) e zero = refl
sums_at (x ∷ xs) (y ∷ ys) e (suc i) = sums_at xs ys (omega arith) i

pub length-sums : (xs ys : List ℕ) → length xs ≡ length ys → length (sums xs ys) ≡ length xs
unfolding sums
length-sums [] ys e = refl
length-sums (x ∷ xs) [] e = absurd (omega arith)
length-sums (x ∷ xs) (y ∷ ys) e = ap suc (length-sums xs ys (omega arith))

pub sums_bits : (xs ys : List ℕ) → Bits xs → Bits ys → Bits (sums xs ys)
unfolding sums
sums_bits [] ys hx hy = tt
sums_bits (x ∷ xs) [] hx hy = tt
sums_bits (x ∷ xs) (y ∷ ys) hx hy = (xor_lt 1 x y hx.0 hy.0, sums_bits xs ys hx.1 hy.1)

sums_none : (xs : List ℕ) → sums xs [] ≡ []
unfolding sums
sums_none [] = refl
sums_none (x ∷ xs) = refl

sums-append : (xs ys us vs : List ℕ) → length xs ≡ length ys → sums (xs ++ us) (ys ++ vs) ≡ sums xs ys ++ sums us vs
unfolding sums
sums-append [] [] us vs e = refl
sums-append [] (y ∷ ys) us vs e = absurd (omega arith)
sums-append (x ∷ xs) [] us vs e = absurd (omega arith)
sums-append (x ∷ xs) (y ∷ ys) us vs e = ap (λ (l : List ℕ). bit_xor x y ∷ l) (sums-append xs ys us vs (omega arith))

-- ---- the division

step_xor : (a b x y : ℕ) → a < 2 ^ 16 → b < 2 ^ 16 → x < 2 → y < 2 → step (bit_xor a b) (bit_xor x y) ≡ bit_xor (step a x) (step b y)
unfolding step
step_xor a b x y ha hb hx hy =
    ap moved (ap (bit_xor (bit_xor a b)) up ∙ crosswise a b (x * 2 ^ 15) (y * 2 ^ 15))
    ∙ moved_xor (bit_xor a (x * 2 ^ 15)) (bit_xor b (y * 2 ^ 15)) (xor_lt 16 a (x * 2 ^ 15) ha (omega arith)) (xor_lt 16 b (y * 2 ^ 15) hb (omega arith))
  where
    up : bit_xor x y * 2 ^ 15 ≡ bit_xor (x * 2 ^ 15) (y * 2 ^ 15)
    up =
        sym (add-zero (bit_xor x y * 2 ^ 15)) ∙ sym (xor_block 15 x y 0 0 (omega arith) (omega arith))
        ∙ ap₂ bit_xor (add-zero (x * 2 ^ 15)) (add-zero (y * 2 ^ 15))

-- THE DIVISION IS LINEAR
pub divided_sums : (a b : ℕ) (xs ys : List ℕ) → a < 2 ^ 16 → b < 2 ^ 16 → Bits xs → Bits ys → length xs ≡ length ys
    → divided (bit_xor a b) (sums xs ys) ≡ bit_xor (divided a xs) (divided b ys)
unfolding divided sums
divided_sums a b [] [] ha hb hx hy e = refl
divided_sums a b [] (y ∷ ys) ha hb hx hy e = absurd (omega arith)
divided_sums a b (x ∷ xs) [] ha hb hx hy e = absurd (omega arith)
divided_sums a b (x ∷ xs) (y ∷ ys) ha hb hx hy e =
    ap (λ (r : ℕ). divided r (sums xs ys)) (step_xor a b x y ha hb hx.0 hy.0)
    ∙ divided_sums (step a x) (step b y) xs ys (step_lt a x ha hx.0) (step_lt b y hb hy.0) hx.1 hy.1 (omega arith)

-- ---- octets

bits_sum : (n u v : ℕ) → bits n (bit_xor u v) ≡ sums (bits n u) (bits n v)
unfolding bits sums
bits_sum zero u v = refl
bits_sum (suc n) u v =
    ap₂ (λ (b : ℕ) (l : List ℕ). b ∷ l) (ap (λ (x : ℕ). x % 2) (xor_shr u v n) ∙ xor_mod (u / 2 ^ n) (v / 2 ^ n) 1) (bits_sum n u v)

pub all_bits_sum : (xs ys : List ℕ) → all_bits (sums xs ys) ≡ sums (all_bits xs) (all_bits ys)
unfolding all_bits sums
all_bits_sum [] ys = refl
all_bits_sum (x ∷ xs) [] = sym (sums_none (bits 8 x ++ all_bits xs))
all_bits_sum (x ∷ xs) (y ∷ ys) =
    ap₂ (λ (a b : List ℕ). a ++ b) (bits_sum 8 x y) (all_bits_sum xs ys)
    ∙ sym (sums-append (bits 8 x) (bits 8 y) (all_bits xs) (all_bits ys) (length-bits 8 x ∙ sym (length-bits 8 y)))

pub length-all_bits : (os : List ℕ) → length (all_bits os) ≡ 8 * length os
unfolding all_bits
length-all_bits [] = refl
length-all_bits (o ∷ os) =
    length-append (bits 8 o) (all_bits os) ∙ ap₂ (λ (a b : ℕ). a + b) (length-bits 8 o) (length-all_bits os) ∙ omega arith

-- the remainders of two frames of one length: their sum is what their sum leaves of a register of zeros
pub remainders_sum : (xs ys : List ℕ) → length xs ≡ length ys → divided 0 (all_bits (sums xs ys)) ≡ bit_xor (remainder xs) (remainder ys)
unfolding remainder
remainders_sum xs ys e =
    ap (divided 0) (all_bits_sum xs ys)
    ∙ divided_sums preset preset (all_bits xs) (all_bits ys) (omega arith) (omega arith) (all_bits_bits xs) (all_bits_bits ys)
    (length-all_bits xs ∙ ap (λ (n : ℕ). 8 * n) e ∙ sym (length-all_bits ys))
