-- What the private functions go by: division by numbers of four symbols, and values of a word's polynomial at powers of the root. No public
-- promise rests on these.
use Rattle.std.specs.Prelude.{ℕ, zero, suc, ◌+◌, ◌*◌, ◌/◌, ◌%◌, ◌^◌, ◌<◌, ◌≤◌, ◌≡◌}
use Rattle.std.specs.Int.Bits.{bit_xor}
use Rattle.repair.specs.Field.{power, product}
use Rattle.repair.specs.Code.{symbol, four, Written, distance}

-- the generator times the root's power n, without its x^4
unfoldable pub generator_times : ℕ → ℕ
generator_times n = four (record { c3 = power (n + 3); c2 = power (n + 1); c1 = power (n + 3); c0 = power n })

-- an element times the generator, without its x^4
unfoldable pub multiple : ℕ → ℕ
multiple e = four (record { c3 = product e (power 3); c2 = product e (power 1); c1 = product e (power 3); c0 = e })

-- one step of the division: `divided`, of numbers
unfoldable pub brought_down : ℕ → ℕ → ℕ
brought_down left s = bit_xor (left % 16 ^ 3 * 16 + s) (multiple (left / 16 ^ 3))

-- the sum of f at the numbers below n
unfoldable pub total : ℕ → (ℕ → ℕ) → ℕ
total zero f = 0
total (suc n) f = bit_xor (total n f) (f n)

-- the value at the root's power j of the polynomial with n coefficients, c k for x^k
unfoldable pub value : ℕ → ℕ → (ℕ → ℕ) → ℕ
value n j c = total n (λ k. product (c k) (power (j * k)))

-- which power an element is
pub record Exponent (e r : ℕ) : Type 0 where
  pub short : r < 15
  pub is : 0 < e → e < 16 → power r ≡ e

-- the change at p, where the values at a^6 and a^7 are those of a change at p and another at q
pub record Amount (six seven p q r : ℕ) : Type 0 where
  pub small : r < 16
  pub is : (x y : ℕ) → x < 16 → y < 16 → (p ≡ q → ⊥) → six ≡ bit_xor (product x (power (6 * p))) (product y (power (6 * q)))
      → seven ≡ bit_xor (product x (power (7 * p))) (product y (power (7 * q))) → r ≡ x

-- a word that differs from w in two symbols at most, and is the rightly written one that differs at p and q alone, if there is one
pub record Candidate (w p q r : ℕ) : Type 0 where
  pub short : r < 16 ^ 10
  pub close : distance 10 w r ≤ 2
  pub is : (v : ℕ) → Written v → ((k : ℕ) → k < 10 → (k ≡ p → ⊥) → (k ≡ q → ⊥) → symbol k (bit_xor w v) ≡ 0) → r ≡ v
