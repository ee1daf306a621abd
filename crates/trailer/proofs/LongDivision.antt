-- Long division, and the register that is sixteen moves ahead of it.
-- Assumes nothing.
use mathlib.Core.Path.{◌≡◌, refl, sym, ap, ap₂, ◌∙◌, subst⁻¹}
use mathlib.Core.List.{List, [], ◌∷◌, ◌++◌}
use Prim.Native.Nat.{ℕ, zero, suc, ◌+◌, ◌*◌, ◌^◌, ◌≤◌, ◌<◌}
use native.Mathlib.Omega.{arith}
use lib.Dec.{eqb, ltb}
use lib.ListN.{replicate}
use lib.Bits.{bit_xor, xor_lt, xor_comm, xor_zero_r, xor_shifted}
use borrow.Author.Tests.{eqb-true, ltb-true, ltb-false, lt-ltb, le-ltb}
use Rattle.octets.proofs.Every.{at}
use Rattle.octets.proofs.Sums.{xor_assoc}
use Rattle.octets.proofs.Tests.{test}
use Rattle.trailer.specs.Division.{generator, moved, step, divided, brought_down, modulo, sixteen_zeros}
use Rattle.trailer.proofs.Moves.{Bits, moved_low, moved_top, moved_lt, moved_xor, moves, moves_lt, moves_xor, moves_nothing}

-- ---- a step of long division is a move, and the next coefficient added

pub brought_sum : (r b : ℕ) → r < 2 ^ 16 → b < 2 → brought_down r b ≡ bit_xor (moved r) b
unfolding brought_down
brought_sum r b hr hb =
    test (ltb r (2 ^ 15))
    (λ t. let l : r < 2 ^ 15 = ltb-true r (2 ^ 15) t in
    rw (lt-ltb (r * 2 + b) (2 ^ 16) (omega arith)) (sym (ap (λ (x : ℕ). bit_xor x b) (moved_low r l) ∙ xor_shifted r 1 b hb)))
    (λ t. let l : 2 ^ 15 ≤ r = ltb-false r (2 ^ 15) t in
    rw (le-ltb (r * 2 + b) (2 ^ 16) (omega arith))
    (ap (λ (x : ℕ). bit_xor x generator) (sym (xor_shifted r 1 b hb)) ∙ xor_assoc (r * 2) b generator
    ∙ ap (bit_xor (r * 2)) (xor_comm b generator) ∙ sym (xor_assoc (r * 2) generator b)
    ∙ sym (ap (λ (x : ℕ). bit_xor x b) (moved_top r l))))

pub brought_lt : (r b : ℕ) → r < 2 ^ 16 → b < 2 → brought_down r b < 2 ^ 16
brought_lt r b hr hb = subst⁻¹ (λ (x : ℕ). x < 2 ^ 16) (brought_sum r b hr hb) (xor_lt 16 (moved r) b (moved_lt r hr) (omega arith))

pub modulo_lt : (r : ℕ) (bs : List ℕ) → r < 2 ^ 16 → Bits bs → modulo r bs < 2 ^ 16
unfolding modulo
modulo_lt r [] hr hb = hr
modulo_lt r (b ∷ bs) hr hb = modulo_lt (brought_down r b) bs (brought_lt r b hr hb.0) hb.1

pub modulo-append : (r : ℕ) (xs ys : List ℕ) → modulo r (xs ++ ys) ≡ modulo (modulo r xs) ys
unfolding modulo
modulo-append r [] ys = refl
modulo-append r (x ∷ xs) ys = modulo-append (brought_down r x) xs ys

-- ---- zeros move the remainder

pub modulo_zeros : (n r : ℕ) → r < 2 ^ 16 → modulo r (replicate n 0) ≡ moves n r
unfolding modulo moves
modulo_zeros zero r hr = refl
modulo_zeros (suc n) r hr =
    ap (λ (x : ℕ). modulo x (replicate n 0)) (brought_sum r 0 hr (omega arith) ∙ xor_zero_r (moved r)) ∙ modulo_zeros n (moved r) (moved_lt r hr)

-- ---- the register is sixteen moves ahead

moves_moved : (n r : ℕ) → moves n (moved r) ≡ moved (moves n r)
unfolding moves
moves_moved zero r = refl
moves_moved (suc n) r = moves_moved n (moved r)

bit_ahead : (b : ℕ) → b < 2 → moves 16 b ≡ moved (b * 2 ^ 15)
unfolding moves moved
bit_ahead b h = eqb-true _ _ (at 2 (λ b. eqb (moves 16 b) (moved (b * 2 ^ 15))) refl b h)

pub ahead : (q : ℕ) (bs : List ℕ) → q < 2 ^ 16 → Bits bs → divided (moves 16 q) bs ≡ moves 16 (modulo q bs)
unfolding divided modulo step
ahead q [] hq hb = refl
ahead q (b ∷ bs) hq hb =
    ap (λ (r : ℕ). divided r bs)
    (moved_xor (moves 16 q) (b * 2 ^ 15) (moves_lt 16 q hq) (omega (arith, hb.0))
    ∙ ap₂ bit_xor (sym (moves_moved 16 q)) (sym (bit_ahead b hb.0))
    ∙ sym (moves_xor 16 (moved q) b (moved_lt q hq) (omega (arith, hb.0)))
    ∙ ap (moves 16) (sym (brought_sum q b hq hb.0)))
    ∙ ahead (brought_down q b) bs (brought_lt q b hq hb.0) hb.1

-- bits followed by sixteen zeros leave what the bits alone leave of a register of zeros
pub zeros_behind : (bs : List ℕ) → Bits bs → modulo 0 (bs ++ sixteen_zeros) ≡ divided 0 bs
zeros_behind bs h =
    modulo-append 0 bs sixteen_zeros ∙ modulo_zeros 16 (modulo 0 bs) (modulo_lt 0 bs (omega arith) h)
    ∙ sym (ahead 0 bs (omega arith) h) ∙ ap (λ (r : ℕ). divided r bs) (moves_nothing 16)
