-- The remainder of source 004. Polynomials over 0 and 1 are numbers, the coefficient of X^k in bit k; their sum is `bit_xor`, which is
-- their difference too.
use Rattle.std.specs.Prelude.{ℕ, zero, suc, ◌+◌, ◌*◌, ◌/◌, ◌%◌, ◌^◌, ◌<◌, ◌≡◌, List, [], ◌∷◌, ◌++◌, ltb, get_or, replicate}
use Rattle.std.specs.Int.Bits.{bit_xor}
use Rattle.octets.specs.Basics.{pick}

-- X^16 + X^12 + X^5 + 1
abbrev pub generator : ℕ
generator = 2 ^ 16 + 2 ^ 12 + 2 ^ 5 + 1

-- the lowest n bits of a number, the most significant first
unfoldable pub bits : ℕ → ℕ → List ℕ
bits zero v = []
bits (suc n) v = v / 2 ^ n % 2 ∷ bits n v

-- the bits of octets in order
unfoldable pub all_bits : List ℕ → List ℕ
all_bits [] = []
all_bits (o ∷ os) = bits 8 o ++ all_bits os

-- ---- by the shift register

-- the register moved up by one: where its top bit was 1, the generator is taken away
unfoldable pub moved : ℕ → ℕ
moved r = pick (ltb r (2 ^ 15)) (r * 2) (bit_xor (r * 2) generator)

-- one step: the next bit is added to the top bit, and the register is moved up
unfoldable pub step : ℕ → ℕ → ℕ
step r b = moved (bit_xor r (b * 2 ^ 15))

-- the register after some bits
unfoldable pub divided : ℕ → List ℕ → ℕ
divided r [] = r
divided r (b ∷ bs) = divided (step r b) bs

-- the register is preset to ones
abbrev pub preset : ℕ
preset = 0xFFFF

-- what is left in it when all octets went in
unfoldable pub remainder : List ℕ → ℕ
remainder os = divided preset (all_bits os)

-- ---- by long division

-- one step: the remainder times X with the next coefficient, less the generator where X^16 stands in it
unfoldable pub brought_down : ℕ → ℕ → ℕ
brought_down r b = pick (ltb (r * 2 + b) (2 ^ 16)) (r * 2 + b) (bit_xor (r * 2 + b) generator)

-- a polynomial, its coefficients from the highest power down, modulo the generator, after a remainder r
unfoldable pub modulo : ℕ → List ℕ → ℕ
modulo r [] = r
modulo r (b ∷ bs) = modulo (brought_down r b) bs

-- sixteen coefficients that are 0: what stands before them is multiplied by X^16
abbrev pub sixteen_zeros : List ℕ
sixteen_zeros = replicate 16 0

-- a table of remainders: the entry for an octet is the remainder of that octet followed by sixteen zeros
pub record Remainders (table : List ℕ) : Type 0 where
  pub entry : (o : ℕ) → o < 256 → get_or table o 0 ≡ modulo 0 (bits 8 o ++ sixteen_zeros)
