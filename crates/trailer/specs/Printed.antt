-- Source 004's own formula, 4.1.6.2.2: [X^16 M(X) + X^(n-16) L(X)] modulo G(X), by long division, is the remainder that the register
-- leaves. Its syndrome, 4.1.6.3, is the same of all n bits of a frame.
use Rattle.std.specs.Prelude.{ℕ, ◌≡◌, List, [], ◌∷◌, ◌++◌, length, replicate, eqb}
use Rattle.std.specs.Int.Bits.{bit_xor}
use Rattle.octets.specs.Basics.{AllOctets}
use Rattle.trailer.specs.Trailer.{right}
use Rattle.trailer.specs.Division.{all_bits, remainder, modulo, sixteen_zeros}

-- the sum of two polynomials of as many coefficients
unfoldable pub sums : List ℕ → List ℕ → List ℕ
sums [] ys = []
sums (x ∷ xs) [] = []
sums (x ∷ xs) (y ∷ ys) = bit_xor x y ∷ sums xs ys

-- X^16 M(X) and X^(n-16) L(X), where M has n-16 coefficients and L sixteen ones
unfoldable pub printed : List ℕ → ℕ
printed m = modulo 0 (sums (m ++ sixteen_zeros) (replicate 16 1 ++ replicate (length m) 0))

abbrev pub AsPrinted : Type 0
AsPrinted = (os : List ℕ) → remainder os ≡ printed (all_bits os)

-- a frame is right exactly where its syndrome is zero
abbrev pub Syndrome : Type 0
Syndrome = (f : List ℕ) → AllOctets f → right f ≡ eqb (printed (all_bits f)) 0
