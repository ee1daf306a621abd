-- Two wrong bits: no power of X below the 32,767th is 1 again, so that a second wrong bit never undoes the first.
-- Assumes nothing.
use mathlib.Core.Path.{◌≡◌, refl, sym, ap, ap₂, ◌∙◌}
use mathlib.Core.Bool.{Bool, true, false, not}
use mathlib.Core.List.{List, [], ◌∷◌}
use Prim.Native.Nat.{ℕ, zero, suc, ◌+◌, ◌%◌, ◌^◌, ◌≤◌, ◌<◌}
use native.Mathlib.Omega.{arith}
use lib.Dec.{eqb}
use lib.ListN.{length}
use lib.Bits.{bit_xor, xor_lt, xor_zero_r}
use borrow.Author.Tests.{eqb-true, eqb-false, not-true}
use Rattle.octets.specs.Basics.{and}
use Rattle.octets.proofs.Choices.{and_true}
use Rattle.octets.proofs.Sums.{xor_apart}
use Rattle.octets.proofs.Tests.{test}
use Rattle.trailer.specs.Division.{moved, step, divided, all_bits}
use Rattle.trailer.specs.Printed.{sums}
use Rattle.trailer.specs.Trailer.{right}
use Rattle.trailer.specs.WrongBits.{differing, wrong_bits, FewSeen}
use Rattle.trailer.proofs.Moves.{Bits, lower_terms, moved_lt, moved_none, step_lt}
use Rattle.trailer.proofs.Remainders.{all_bits_bits}
use Rattle.trailer.proofs.Linear.{length-sums, length-all_bits}
use Rattle.trailer.proofs.Bursts.{Zeros, zeros_divided, wrong, wrong_bit, as_many_bits, none_wrong, seen_unless}
use Rattle.trailer.proofs.Odd.{bit_differs, odd_seen}

-- in so many moves the register is never a one alone at the top
unfoldable never : ℕ → ℕ → Bool
never zero r = true
never (suc n) r = and (not (eqb r (2 ^ 15))) (never n (moved r))

never_test : never 32766 lower_terms ≡ true
unfolding never moved
never_test = refl

-- how many bits are 1
unfoldable ones : List ℕ → ℕ
ones [] = 0
ones (b ∷ bs) = b + ones bs

ones_none : (bs : List ℕ) → ones bs ≡ 0 → Zeros bs
unfolding ones
ones_none [] e i = refl
ones_none (b ∷ bs) e zero = omega arith
ones_none (b ∷ bs) e (suc i) = ones_none bs (omega arith) i

ones_differing : (xs ys : List ℕ) → Bits xs → Bits ys → length xs ≡ length ys → ones (sums xs ys) ≡ differing xs ys
unfolding ones sums differing
ones_differing [] [] hx hy e = refl
ones_differing [] (y ∷ ys) hx hy e = absurd (omega arith)
ones_differing (x ∷ xs) [] hx hy e = absurd (omega arith)
ones_differing (x ∷ xs) (y ∷ ys) hx hy e =
    ap₂ (λ (p q : ℕ). p + q) (bit_differs x y hx.0 hy.0) (ones_differing xs ys hx.1 hy.1 (omega arith))

step-zero : (r : ℕ) → step r 0 ≡ moved r
unfolding step
step-zero r = ap moved (xor_zero_r r)

step_one : (r : ℕ) → r < 2 ^ 16 → step r 1 ≡ 0 → r ≡ 2 ^ 15
unfolding step
step_one r hr e = xor_apart r (2 ^ 15) (moved_none (bit_xor r (2 ^ 15)) (xor_lt 16 r (2 ^ 15) hr (omega arith)) e)

-- one more wrong bit: only a one alone at the top would be undone by it
one_left : (n r : ℕ) (bs : List ℕ) → never n r ≡ true → length bs ≤ n → r < 2 ^ 16 → Bits bs → ones bs ≡ 1 → divided r bs ≡ 0 → ⊥
unfolding never ones divided
one_left n r [] t l hr hb one e = omega arith
one_left zero r (b ∷ bs) t l hr hb one e = omega arith
one_left (suc n) r (b ∷ bs) t l hr hb one e =
    let now = and_true (not (eqb r (2 ^ 15))) (never n (moved r)) t in
    test (eqb b 0)
    (λ z. let b0 : b ≡ 0 = eqb-true b 0 z in
    one_left n (moved r) bs now.1 (omega arith) (moved_lt r hr) hb.1 (omega arith)
    (ap (λ (x : ℕ). divided x bs) (sym (step-zero r)) ∙ ap (λ (x : ℕ). divided (step r x) bs) (sym b0) ∙ e))
    (λ z. let b0 : b ≡ 0 → ⊥ = eqb-false b 0 z in
    let hb0 : b < 2 = hb.0 in
    let b1 : b ≡ 1 = omega arith in
    eqb-false r (2 ^ 15) (not-true (eqb r (2 ^ 15)) now.0)
    (step_one r hr (zeros_divided (step r 1) bs (step_lt r 1 hr (omega arith)) (ones_none bs (omega arith))
    (ap (λ (x : ℕ). divided (step r x) bs) (sym b1) ∙ e))))

-- two wrong bits
two_left : (bs : List ℕ) → length bs ≤ 32767 → Bits bs → ones bs ≡ 2 → divided 0 bs ≡ 0 → ⊥
unfolding ones divided step moved
two_left [] l hb two e = omega arith
two_left (b ∷ bs) l hb two e =
    test (eqb b 0)
    (λ z. let b0 : b ≡ 0 = eqb-true b 0 z in
    two_left bs (omega arith) hb.1 (omega arith) (ap (λ (x : ℕ). divided (step 0 x) bs) (sym b0) ∙ e))
    (λ z. let b0 : b ≡ 0 → ⊥ = eqb-false b 0 z in
    let hb0 : b < 2 = hb.0 in
    let b1 : b ≡ 1 = omega arith in
    one_left 32766 lower_terms bs never_test (omega arith) (omega arith) hb.1 (omega arith) (ap (λ (x : ℕ). divided (step 0 x) bs) (sym b1) ∙ e))

-- UP TO THREE
pub few_seen : FewSeen
unfolding wrong_bits
few_seen sent came arrives other short few = go (differing (all_bits sent) (all_bits came)) refl few
  where
    count : ones (wrong sent came arrives) ≡ differing (all_bits sent) (all_bits came)
    count = ones_differing (all_bits sent) (all_bits came) (all_bits_bits sent) (all_bits_bits came) (as_many_bits sent came arrives)

    long : length (wrong sent came arrives) ≤ 32767
    long = omega (arith, length-sums (all_bits sent) (all_bits came) (as_many_bits sent came arrives), length-all_bits sent)

    go : (n : ℕ) → differing (all_bits sent) (all_bits came) ≡ n → n ≤ 3 → right came ≡ false
    go zero e l = absurd (other (none_wrong sent came arrives (ones_none (wrong sent came arrives) (count ∙ e))))
    go (suc zero) e l = odd_seen sent came arrives (ap (λ (n : ℕ). n % 2) e)
    go (suc (suc zero)) e l = seen_unless sent came arrives (two_left (wrong sent came arrives) long (wrong_bit sent came arrives) (count ∙ e))
    go (suc (suc (suc zero))) e l = odd_seen sent came arrives (ap (λ (n : ℕ). n % 2) e)
    go (suc (suc (suc (suc n)))) e l = absurd (omega arith)
