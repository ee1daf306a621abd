-- The register's remainder is the one that source 004 prints.
-- Assumes nothing.
use mathlib.Core.Path.{◌≡◌, refl, sym, ap, ap₂, ◌∙◌}
use mathlib.Core.List.{List, [], ◌∷◌, ◌++◌}
use Prim.Native.Nat.{ℕ, zero, suc, ◌+◌, ◌^◌, ◌<◌}
use native.Mathlib.Nat.{add_comm}
use native.Mathlib.Omega.{arith}
use lib.ListN.{length, replicate, length-append, length-replicate}
use lib.Dec.{eqb}
use lib.Bits.{bit_xor, xor_lt, xor_zero_r}
use Rattle.octets.proofs.Fronts.{all_joined, all_same}
use Rattle.octets.proofs.Sums.{crosswise}
use Rattle.trailer.specs.Division.{preset, moved, step, divided, all_bits, remainder, brought_down, modulo, sixteen_zeros}
use Rattle.trailer.specs.Printed.{sums, printed, AsPrinted, Syndrome}
use Rattle.trailer.proofs.Moves.{Bits, moved_xor, moves, moves_nothing}
use Rattle.trailer.proofs.LongDivision.{brought_sum, brought_lt, modulo_lt, modulo-append, modulo_zeros, ahead}
use Rattle.trailer.proofs.Remainders.{all_bits_bits}
use Rattle.trailer.proofs.Linear.{divided_sums}
use Rattle.trailer.proofs.Right.{right_whole}

modulo_sums : (a b : ℕ) (xs ys : List ℕ) → a < 2 ^ 16 → b < 2 ^ 16 → Bits xs → Bits ys → length xs ≡ length ys
    → modulo (bit_xor a b) (sums xs ys) ≡ bit_xor (modulo a xs) (modulo b ys)
unfolding modulo sums
modulo_sums a b [] [] ha hb hx hy e = refl
modulo_sums a b [] (y ∷ ys) ha hb hx hy e = absurd (omega arith)
modulo_sums a b (x ∷ xs) [] ha hb hx hy e = absurd (omega arith)
modulo_sums a b (x ∷ xs) (y ∷ ys) ha hb hx hy e =
    ap (λ (r : ℕ). modulo r (sums xs ys))
    (brought_sum (bit_xor a b) (bit_xor x y) (xor_lt 16 a b ha hb) (xor_lt 1 x y hx.0 hy.0)
    ∙ ap (λ (m : ℕ). bit_xor m (bit_xor x y)) (moved_xor a b ha hb) ∙ crosswise (moved a) (moved b) x y
    ∙ sym (ap₂ bit_xor (brought_sum a x ha hx.0) (brought_sum b y hb hy.0)))
    ∙ modulo_sums (brought_down a x) (brought_down b y) xs ys (brought_lt a x ha hx.0) (brought_lt b y hb hy.0) hx.1 hy.1 (omega arith)

-- ---- zeros move the register

divided_moves : (n r : ℕ) → divided r (replicate n 0) ≡ moves n r
unfolding divided moves step
divided_moves zero r = refl
divided_moves (suc n) r = ap (λ (x : ℕ). divided (moved x) (replicate n 0)) (xor_zero_r r) ∙ divided_moves n (moved r)

-- ---- the two together

sums_zeros : (xs : List ℕ) → sums xs (replicate (length xs) 0) ≡ xs
unfolding sums
sums_zeros [] = refl
sums_zeros (x ∷ xs) = ap₂ (λ (b : ℕ) (l : List ℕ). b ∷ l) (xor_zero_r x) (sums_zeros xs)

sixteen_ones : modulo 0 (replicate 16 1) ≡ preset
unfolding modulo brought_down
sixteen_ones = refl

register : (m : List ℕ) → Bits m → divided preset m ≡ bit_xor (moves 16 (modulo 0 m)) (moves (length m) preset)
register m hm =
    ap (divided preset) (sym (sums_zeros m))
    ∙ divided_sums 0 preset m (replicate (length m) 0) (omega arith) (omega arith) hm (all_same (λ b. b < 2) (length m) (omega arith)) (sym (length-replicate (length m) 0))
    ∙ ap₂ bit_xor (ap (λ (r : ℕ). divided r m) (sym (moves_nothing 16)) ∙ ahead 0 m (omega arith) hm) (divided_moves (length m) preset)

formula : (m : List ℕ) → Bits m → printed m ≡ bit_xor (moves 16 (modulo 0 m)) (moves (length m) preset)
unfolding printed
formula m hm =
    modulo_sums 0 0 (m ++ sixteen_zeros) (replicate 16 1 ++ replicate (length m) 0) (omega arith) (omega arith)
    (all_joined (λ b. b < 2) m (sixteen_zeros) hm (all_same (λ b. b < 2) 16 (omega arith)))
    (all_joined (λ b. b < 2) (replicate 16 1) (replicate (length m) 0) (all_same (λ b. b < 2) 16 (omega arith)) (all_same (λ b. b < 2) (length m) (omega arith)))
    (length-append m (sixteen_zeros) ∙ add_comm (length m) 16 ∙ sym (length-append (replicate 16 1) (replicate (length m) 0) ∙ ap (λ (n : ℕ). 16 + n) (length-replicate (length m) 0)))
    ∙ ap₂ bit_xor
    (modulo-append 0 m (sixteen_zeros) ∙ modulo_zeros 16 (modulo 0 m) (modulo_lt 0 m (omega arith) hm))
    (modulo-append 0 (replicate 16 1) (replicate (length m) 0) ∙ ap (λ (r : ℕ). modulo r (replicate (length m) 0)) sixteen_ones
    ∙ modulo_zeros (length m) preset (omega arith))

-- THE REMAINDER IS AS PRINTED
pub as_printed : AsPrinted
unfolding remainder
as_printed os = register (all_bits os) (all_bits_bits os) ∙ sym (formula (all_bits os) (all_bits_bits os))

pub syndrome : Syndrome
syndrome f small = right_whole f small ∙ ap (λ (n : ℕ). eqb n 0) (as_printed f)
