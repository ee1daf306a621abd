-- The division by numbers of four symbols is that by four symbols.
-- Assumes nothing.
use mathlib.Core.Path.{◌≡◌, refl, sym, ap, ap₂, ◌∙◌}
use mathlib.Core.Bool.{true}
use Prim.Native.Nat.{ℕ, suc, ◌+◌, ◌-◌, ◌*◌, ◌/◌, ◌%◌, ◌^◌, ◌<◌}
use native.Mathlib.Omega.{arith}
use lib.Dec.{eqb}
use lib.Pow.{shr-shr}
use lib.Bits.{bit_xor, xor_block, xor_zero_r}
use borrow.Author.Tests.{eqb-true}
use Rattle.octets.proofs.Every.{below, at}
use Rattle.words.specs.Fields.{field}
use Rattle.repair.specs.Field.{times_root, power, product_from, product}
use Rattle.repair.specs.Code.{Register, symbol, divided, remainder, four}
use Rattle.repair.specs.Values.{generator_times, multiple, brought_down}
use Rattle.repair.proofs.Laws.{product_lt}
use Rattle.repair.proofs.Table.{digits}
use Rattle.repair.proofs.Roots.{Small, small}

-- an element times the generator, by its digits
abbrev by_digits : ℕ → ℕ
by_digits e = digits e (generator_times 0) (generator_times 1) (generator_times 2) (generator_times 3)

multiple_test : below 16 (λ e. eqb (by_digits e) (multiple e)) ≡ true
unfolding multiple generator_times four product product_from power times_root
multiple_test = refl

pub multiple_digits : (e : ℕ) → e < 16 → by_digits e ≡ multiple e
multiple_digits e h = eqb-true _ _ (at 16 (λ e. eqb (by_digits e) (multiple e)) multiple_test e h)

multiple_none : multiple 0 ≡ 0
unfolding multiple four product product_from power times_root
multiple_none = refl

pub brought_divided : (r : Register) (s : ℕ) → Small r → s < 16 → brought_down (four r) s ≡ four (divided r s)
unfolding brought_down multiple four divided
brought_divided r s h small-s =
    let top : four r / 16 ^ 3 ≡ r.c3 = omega (arith, h.s2, h.s1, h.s0) in
    let rest : four r % 16 ^ 3 * 16 + s ≡ ((r.c2 * 16 + r.c1) * 16 + r.c0) * 16 + s = omega (arith, h.s2, h.s1, h.s0) in
    let cubed : ℕ = product r.c3 (power 3) in
    let once : ℕ = product r.c3 (power 1) in
    ap₂ (λ (x e : ℕ). bit_xor x (multiple e)) rest top
    ∙ xor_block 4 ((r.c2 * 16 + r.c1) * 16 + r.c0) ((cubed * 16 + once) * 16 + cubed) s r.c3 small-s h.s3
    ∙ ap (λ (x : ℕ). x * 16 + bit_xor s r.c3)
    (xor_block 4 (r.c2 * 16 + r.c1) (cubed * 16 + once) r.c0 cubed h.s0 (product_lt r.c3 (power 3))
    ∙ ap (λ (x : ℕ). x * 16 + bit_xor r.c0 cubed) (xor_block 4 r.c2 cubed r.c1 once h.s1 (product_lt r.c3 (power 1))))

-- ---- a word's first four symbols are what is left of them

brought_on : (n w : ℕ) → w / 16 < 16 ^ 3 → four (remainder n (w / 16)) ≡ w / 16 → four (remainder (suc n) w) ≡ w
unfolding remainder brought_down
brought_on n w h e =
    let low : w % 16 < 16 = omega arith in
    let rest : w / 16 % 16 ^ 3 * 16 + w % 16 ≡ w = omega arith in
    let none : w / 16 / 16 ^ 3 ≡ 0 = omega arith in
    sym (brought_divided (remainder n (w / 16)) (w % 16) (small n (w / 16)) low)
    ∙ ap (λ (x : ℕ). brought_down x (w % 16)) e
    ∙ ap₂ (λ (x t : ℕ). bit_xor x (multiple t)) rest none ∙ ap (bit_xor w) multiple_none ∙ xor_zero_r w

pub first_four : (w : ℕ) → w < 16 ^ 4 → four (remainder 4 w) ≡ w
unfolding remainder four
first_four w h =
    let none : w / 16 / 16 / 16 / 16 ≡ 0 = omega arith in
    brought_on 3 w (omega arith)
    (brought_on 2 (w / 16) (omega arith) (brought_on 1 (w / 16 / 16) (omega arith) (brought_on 0 (w / 16 / 16 / 16) (omega arith) (sym none))))

-- ---- and the next is brought down

pub next : (k w : ℕ) → k < 10 → brought_down (four (remainder (10 - suc k) (w / 2 ^ (4 * suc k)))) (symbol k w) ≡ four (remainder (10 - k) (w / 2 ^ (4 * k)))
unfolding remainder symbol field
next k w h =
    let more : 10 - k ≡ suc (10 - suc k) = omega arith in
    let further : 4 * suc k ≡ 4 * k + 4 = omega arith in
    let above : w / 2 ^ (4 * k) / 16 ≡ w / 2 ^ (4 * suc k) = shr-shr w (4 * k) 4 ∙ ap (λ (n : ℕ). w / 2 ^ n) (sym further) in
    let r : Register = remainder (10 - suc k) (w / 2 ^ (4 * suc k)) in
    let s : ℕ = w / 2 ^ (4 * k) % 16 in
    let small-s : s < 16 = omega arith in
    brought_divided r s (small (10 - suc k) (w / 2 ^ (4 * suc k))) small-s
    ∙ ap (λ (v : ℕ). four (divided (remainder (10 - suc k) v) s)) (sym above) ∙ ap (λ (n : ℕ). four (remainder n (w / 2 ^ (4 * k)))) (sym more)
