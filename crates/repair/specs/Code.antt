-- The (10,6) code: words of ten symbols as numbers of ten hexadecimal digits, the first symbol in the highest; symbol k, counted from
-- the last, stands for the coefficient of x^k.
use Rattle.std.specs.Prelude.{ℕ, zero, suc, ◌+◌, ◌*◌, ◌/◌, ◌%◌, ◌^◌, ◌≤◌, ◌<◌, ◌≡◌, leb, eqb, Option, Some, None}
use Rattle.std.specs.Int.Bits.{bit_xor}
use Rattle.octets.specs.Basics.{pick}
use Rattle.words.specs.Fields.{field}
use Rattle.repair.specs.Field.{power, product}

-- symbol k of a word, counted from the last
unfoldable pub symbol : ℕ → ℕ → ℕ
symbol k w = field w (4 * k) 4

-- four symbols: a remainder on division by the generator, c3 the coefficient of x^3
pub record Register : Type 0 where
  pub c3 : ℕ
  pub c2 : ℕ
  pub c1 : ℕ
  pub c0 : ℕ

-- one step of the division by x^4 + a^3 x^3 + a x^2 + a^3 x + 1: the remainder times x, with the next coefficient, less the generator as
-- often as x^4 stands in it
unfoldable pub divided : Register → ℕ → Register
divided r s =
    record {
      c3 = bit_xor r.c2 (product r.c3 (power 3));
      c2 = bit_xor r.c1 (product r.c3 (power 1));
      c1 = bit_xor r.c0 (product r.c3 (power 3));
      c0 = bit_xor s r.c3;
    }

-- the remainder of the last n symbols of a word on division by the generator
unfoldable pub remainder : ℕ → ℕ → Register
remainder zero w = record { c3 = 0; c2 = 0; c1 = 0; c0 = 0 }
remainder (suc n) w = divided (remainder n (w / 16)) (w % 16)

-- four symbols as a number
unfoldable pub four : Register → ℕ
four r = ((r.c3 * 16 + r.c2) * 16 + r.c1) * 16 + r.c0

-- the check symbols of six symbols: the remainder of these with four zeros after them
unfoldable pub checks : ℕ → ℕ
checks six = four (remainder 10 (six * 16 ^ 4))

-- six symbols, and their check symbols after them
unfoldable pub written : ℕ → ℕ
written six = six * 16 ^ 4 + checks six

-- a rightly written word
pub record Written (w : ℕ) : Type 0 where
  pub six : ℕ
  pub short : six < 16 ^ 6
  pub is : w ≡ written six

-- in how many of their last n symbols two words differ
unfoldable pub distance : ℕ → ℕ → ℕ → ℕ
distance zero u v = 0
distance (suc n) u v = distance n u v + pick (eqb (symbol n u) (symbol n v)) 0 1

-- how a word or a header is read: its refusal, or 0; and the number that it is read as, which is 0 where it is refused
pub record Answer : Type 0 where
  pub refusal : ℕ
  pub read : ℕ

-- what the code answers, as refusal and number: none is the refusal 14
abbrev pub answer_of : Option ℕ → Answer
answer_of None = record { refusal = 14; read = 0 }
answer_of (Some n) = record { refusal = 0; read = n }

-- how a word is read: as the rightly written one, of all six symbols below n, that differs from it in two symbols or fewer; else refused, 14
unfoldable pub reading_below : ℕ → ℕ → Answer
reading_below zero w = record { refusal = 14; read = 0 }
reading_below (suc n) w = pick (leb (distance 10 w (written n)) 2) (record { refusal = 0; read = written n }) (reading_below n w)

unfoldable pub reading : ℕ → Answer
reading w = reading_below (16 ^ 6) w

-- a rightly written word that differs from w in two symbols or fewer
pub record Near (w v : ℕ) : Type 0 where
  pub right : Written v
  pub close : distance 10 w v ≤ 2

-- the same as a rule: refused exactly when there is no such word, else read as one (`reading_rule`, `determined` of proofs/Nearest.antt)
pub data Reads (w : ℕ) : Answer → Type 0 where
  read_as : {r : Answer} → r.refusal ≡ 0 → Near w r.read → Reads w r
  beyond : {r : Answer} → r.refusal ≡ 14 → r.read ≡ 0 → ((v : ℕ) → Near w v → ⊥) → Reads w r
