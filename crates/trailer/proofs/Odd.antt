-- An odd number of wrong bits: the generator has an even number of terms, so that a step keeps whether the ones are even or odd in number.
-- Assumes nothing.
use mathlib.Core.Path.{◌≡◌, refl, sym, ap, ap₂, ◌∙◌}
use mathlib.Core.List.{List, [], ◌∷◌}
use Prim.Native.Nat.{ℕ, zero, suc, ◌+◌, ◌*◌, ◌/◌, ◌%◌, ◌^◌, ◌<◌}
use native.Mathlib.Nat.{pow-suc}
use native.Mathlib.Omega.{arith}
use lib.Dec.{eqb, ltb}
use lib.ListN.{length}
use lib.Bits.{bit_xor, xor_shr, xor_mod, xor_lt, xor_zero_r}
use borrow.Author.Tests.{eqb-true, ltb-true, ltb-false}
use Rattle.octets.specs.Basics.{pick}
use Rattle.octets.proofs.Choices.{pick_lt}
use Rattle.octets.proofs.Every.{at, at2}
use Rattle.octets.proofs.Sums.{xor_assoc, crosswise}
use Rattle.octets.proofs.Tests.{test}
use Rattle.trailer.specs.Division.{generator, moved, step, divided, all_bits}
use Rattle.trailer.specs.Printed.{sums}
use Rattle.trailer.specs.WrongBits.{differing, wrong_bits, OddSeen}
use Rattle.trailer.proofs.Moves.{Bits, moved_low, moved_top, moved_lt, step_lt}
use Rattle.trailer.proofs.Remainders.{all_bits_bits}
use Rattle.trailer.proofs.Bursts.{wrong, wrong_bit, as_many_bits, seen_unless}

-- the sum of the lowest n bits of a number: 1 where they are odd in number
unfoldable parity : ℕ → ℕ → ℕ
parity zero v = 0
parity (suc n) v = bit_xor (v % 2) (parity n (v / 2))

parity_xor : (n u v : ℕ) → parity n (bit_xor u v) ≡ bit_xor (parity n u) (parity n v)
unfolding parity
parity_xor zero u v = refl
parity_xor (suc n) u v =
    ap₂ bit_xor (xor_mod u v 1) (ap (parity n) (xor_shr u v 1) ∙ parity_xor n (u / 2) (v / 2))
    ∙ crosswise (u % 2) (v % 2) (parity n (u / 2)) (parity n (v / 2))

-- a bit above the number's own adds nothing
parity_more : (n v : ℕ) → v < 2 ^ n → parity (suc n) v ≡ parity n v
unfolding parity
parity_more zero v h = let z : v ≡ 0 = omega arith in ap (λ (x : ℕ). bit_xor (x % 2) 0) z
parity_more (suc n) v h = ap (bit_xor (v % 2)) (parity_more n (v / 2) (omega (arith, pow-suc 2 n)))

-- moved up by one, a number keeps its ones
parity_double : (n r : ℕ) → parity (suc n) (r * 2) ≡ parity n r
unfolding parity
parity_double n r =
    let a : r * 2 % 2 ≡ 0 = omega arith in
    let b : r * 2 / 2 ≡ r = omega arith in
    ap₂ (λ (x y : ℕ). bit_xor x (parity n y)) a b

-- the generator has four terms
parity_generator : parity 17 generator ≡ 0
unfolding parity
parity_generator = refl

-- A MOVE KEEPS EVEN AND ODD
parity_moved : (r : ℕ) → r < 2 ^ 16 → parity 16 (moved r) ≡ parity 16 r
parity_moved r h =
    sym (parity_more 16 (moved r) (moved_lt r h))
    ∙ test (ltb r (2 ^ 15)) (λ t. ap (parity 17) (moved_low r (ltb-true r (2 ^ 15) t)) ∙ parity_double 16 r)
    (λ t. ap (parity 17) (moved_top r (ltb-false r (2 ^ 15) t)) ∙ parity_xor 17 (r * 2) generator
    ∙ ap₂ bit_xor (parity_double 16 r) parity_generator ∙ xor_zero_r (parity 16 r))

parity_top : (b : ℕ) → b < 2 → parity 16 (b * 2 ^ 15) ≡ b
unfolding parity
parity_top b h = eqb-true _ _ (at 2 (λ b. eqb (parity 16 (b * 2 ^ 15)) b) refl b h)

parity_step : (r b : ℕ) → r < 2 ^ 16 → b < 2 → parity 16 (step r b) ≡ bit_xor (parity 16 r) b
unfolding step
parity_step r b hr hb =
    parity_moved (bit_xor r (b * 2 ^ 15)) (xor_lt 16 r (b * 2 ^ 15) hr (omega arith))
    ∙ parity_xor 16 r (b * 2 ^ 15) ∙ ap (bit_xor (parity 16 r)) (parity_top b hb)

-- the sum of some bits
unfoldable total : List ℕ → ℕ
total [] = 0
total (b ∷ bs) = bit_xor b (total bs)

parity_divided : (r : ℕ) (bs : List ℕ) → r < 2 ^ 16 → Bits bs → parity 16 (divided r bs) ≡ bit_xor (parity 16 r) (total bs)
unfolding divided total
parity_divided r [] hr hb = sym (xor_zero_r (parity 16 r))
parity_divided r (b ∷ bs) hr hb =
    parity_divided (step r b) bs (step_lt r b hr hb.0) hb.1
    ∙ ap (λ (x : ℕ). bit_xor x (total bs)) (parity_step r b hr hb.0) ∙ xor_assoc (parity 16 r) b (total bs)

-- two bits add up to 1 where they differ
pub bit_differs : (x y : ℕ) → x < 2 → y < 2 → bit_xor x y ≡ pick (eqb x y) 0 1
bit_differs x y hx hy = eqb-true _ _ (at2 2 2 (λ x y. eqb (bit_xor x y) (pick (eqb x y) 0 1)) refl x y hx hy)

bit_sum : (x y : ℕ) → x < 2 → y < 2 → bit_xor x y ≡ (x + y) % 2
bit_sum x y hx hy = eqb-true _ _ (at2 2 2 (λ x y. eqb (bit_xor x y) ((x + y) % 2)) refl x y hx hy)

-- the sum of the wrong bits tells whether they are odd in number
total_differing : (xs ys : List ℕ) → Bits xs → Bits ys → length xs ≡ length ys → total (sums xs ys) ≡ differing xs ys % 2
unfolding total sums differing
total_differing [] [] hx hy e = refl
total_differing [] (y ∷ ys) hx hy e = absurd (omega arith)
total_differing (x ∷ xs) [] hx hy e = absurd (omega arith)
total_differing (x ∷ xs) (y ∷ ys) hx hy e =
    ap₂ bit_xor (bit_differs x y hx.0 hy.0) (total_differing xs ys hx.1 hy.1 (omega arith))
    ∙ bit_sum (pick (eqb x y) 0 1) (differing xs ys % 2) (pick_lt (eqb x y) 0 1 2 (omega arith) (omega arith)) (omega arith) ∙ omega arith

-- ODD NUMBERS
pub odd_seen : OddSeen
unfolding wrong_bits parity
odd_seen sent came arrives odd =
    seen_unless sent came arrives
    (λ z. let none : total (wrong sent came arrives) ≡ 0 =
    sym (parity_divided 0 (wrong sent came arrives) (omega arith) (wrong_bit sent came arrives)) ∙ ap (parity 16) z in
    let one : total (wrong sent came arrives) ≡ 1 =
    total_differing (all_bits sent) (all_bits came) (all_bits_bits sent) (all_bits_bits came) (as_many_bits sent came arrives) ∙ odd in
    omega arith)
