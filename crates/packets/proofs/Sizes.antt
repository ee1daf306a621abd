-- The header's length for a length-of-length.
-- Assumes nothing.
use mathlib.Core.Path.{◌≡◌, refl}
use Prim.Native.Nat.{ℕ, zero, suc, ◌+◌, ◌/◌, ◌≤◌}
use native.Mathlib.Omega.{arith}
use Rattle.packets.specs.Packet.{header_length}

pub long_header : (n : ℕ) → (n ≡ 0 → ⊥) → (n ≡ 1 → ⊥) → (n ≡ 2 → ⊥) → 8 ≡ header_length n
unfolding header_length
long_header zero a b d = absurd (a refl)
long_header (suc zero) a b d = absurd (b refl)
long_header (suc (suc zero)) a b d = absurd (d refl)
long_header (suc (suc (suc n))) a b d = refl

-- a header that states a length has two halves
pub two_halves : (n : ℕ) → 1 ≤ n → header_length n / 2 + header_length n / 2 ≡ header_length n
unfolding header_length
two_halves zero h = absurd (omega arith)
two_halves (suc zero) h = refl
two_halves (suc (suc zero)) h = refl
two_halves (suc (suc (suc n))) h = refl

pub header_extended : (n : ℕ) → 2 ≤ n → 4 ≤ header_length n
unfolding header_length
header_extended zero h = absurd (omega arith)
header_extended (suc zero) h = absurd (omega arith)
header_extended (suc (suc zero)) h = omega arith
header_extended (suc (suc (suc n))) h = omega arith

pub header_positive : (n : ℕ) → 1 ≤ header_length n
unfolding header_length
header_positive zero = omega arith
header_positive (suc zero) = omega arith
header_positive (suc (suc zero)) = omega arith
header_positive (suc (suc (suc n))) = omega arith

pub header_most : (n : ℕ) → header_length n ≤ 8
unfolding header_length
header_most zero = omega arith
header_most (suc zero) = omega arith
header_most (suc (suc zero)) = omega arith
header_most (suc (suc (suc n))) = omega arith
