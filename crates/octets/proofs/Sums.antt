-- Sums without carries: `bit_xor` on all numbers.
-- Assumes nothing.
use mathlib.Core.Path.{◌≡◌, refl, sym, ap, ap₂, ◌∙◌}
use Prim.Native.Nat.{ℕ, ◌+◌, ◌*◌, ◌/◌, ◌%◌, ◌<◌}
use native.Mathlib.Omega.{arith}
use lib.Dec.{eqb}
use lib.Bits.{bit_xor, differ, xor_step, xor_shr, xor_mod, xor_comm, xor_self, xor_zero_r}
use lib.Arith.{bin_ind}
use borrow.Author.Tests.{eqb-true}
use Rattle.octets.proofs.Every.{at3}

-- of single digits, by computing
digits_assoc : (a b c : ℕ) → a < 2 → b < 2 → c < 2 → differ (bit_xor a b) c ≡ differ a (bit_xor b c)
digits_assoc a b c ha hb hc =
    eqb-true (differ (bit_xor a b) c) (differ a (bit_xor b c))
    (at3 2 2 2 (λ a b c. eqb (differ (bit_xor a b) c) (differ a (bit_xor b c))) refl a b c ha hb hc)

pub xor_assoc : (a b c : ℕ) → bit_xor (bit_xor a b) c ≡ bit_xor a (bit_xor b c)
xor_assoc =
    bin_ind (λ (a : ℕ). (b c : ℕ) → bit_xor (bit_xor a b) c ≡ bit_xor a (bit_xor b c)) (λ b c. refl)
    (λ a ih b c. xor_step (bit_xor a b) c
    ∙ ap₂ (λ (x y : ℕ). bit_xor x (c / 2) * 2 + differ y (c % 2)) (xor_shr a b 1) (xor_mod a b 1)
    ∙ ap₂ (λ (x y : ℕ). x * 2 + y) (ih (b / 2) (c / 2)) (digits_assoc (a % 2) (b % 2) (c % 2) (omega arith) (omega arith) (omega arith))
    ∙ ap₂ (λ (x y : ℕ). bit_xor (a / 2) x * 2 + differ (a % 2) y) (sym (xor_shr b c 1)) (sym (xor_mod b c 1))
    ∙ sym (xor_step a (bit_xor b c)))

-- what is added twice is gone
xor_twice : (a b : ℕ) → bit_xor a (bit_xor a b) ≡ b
xor_twice a b = sym (xor_assoc a a b) ∙ ap (λ (x : ℕ). bit_xor x b) (xor_self a)

xor_swap : (a b c : ℕ) → bit_xor a (bit_xor b c) ≡ bit_xor b (bit_xor a c)
xor_swap a b c = sym (xor_assoc a b c) ∙ ap (λ (x : ℕ). bit_xor x c) (xor_comm a b) ∙ xor_assoc b a c

-- two sums of two, taken the other way
pub crosswise : (a b c d : ℕ) → bit_xor (bit_xor a b) (bit_xor c d) ≡ bit_xor (bit_xor a c) (bit_xor b d)
crosswise a b c d = xor_assoc a b (bit_xor c d) ∙ ap (bit_xor a) (xor_swap b c d) ∙ sym (xor_assoc a c (bit_xor b d))

-- nothing but equals adds up to nothing
pub xor_apart : (a b : ℕ) → bit_xor a b ≡ 0 → a ≡ b
xor_apart a b e = sym (xor_zero_r a) ∙ ap (bit_xor a) (sym e) ∙ xor_twice a b
