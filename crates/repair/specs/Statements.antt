-- What is shown of header error control.
use Rattle.std.specs.Prelude.{ℕ, ◌+◌, ◌*◌, ◌^◌, ◌≤◌, ◌<◌, ◌≡◌, ◌⊎◌, List, [], ◌∷◌, ◌++◌, Bool, length, drop}
use Rattle.std.specs.Int.Bits.{bit_xor}
use Rattle.octets.specs.Basics.{AllOctets}
use Rattle.repair.specs.Field.{power, product}
use Rattle.repair.specs.Code.{symbol, Written, distance, reading}
use Rattle.repair.specs.Values.{value}
use Rattle.repair.specs.Header.{own_octets, own_written, own_header}
use Rattle.repair.specs.Changes.{Legible}

-- x + e times a polynomial, its coefficients from the highest power down, with the one before them
unfoldable pub times_linear : ℕ → ℕ → List ℕ → List ℕ
times_linear e before [] = product e before ∷ []
times_linear e before (c ∷ cs) = bit_xor c (product e before) ∷ times_linear e c cs

-- x + a^j times a polynomial
abbrev pub factor : ℕ → List ℕ → List ℕ
factor j cs = times_linear (power j) 0 cs

-- THE CODE
pub record TheCode : Type 0 where
  -- the generator has the roots a^6 to a^9, and is nothing but their product
  pub generator : factor 6 (factor 7 (factor 8 (factor 9 (1 ∷ [])))) ≡ power 0 ∷ power 3 ∷ power 1 ∷ power 3 ∷ power 0 ∷ []
  -- a rightly written word has the value 0 at each of them
  pub roots : (v : ℕ) → Written v → (j : ℕ) → j < 4 → value 10 (6 + j) (λ k. symbol k v) ≡ 0
  -- two that differ in four symbols or fewer are the same
  pub far_apart : (u v : ℕ) → Written u → Written v → distance 10 u v ≤ 4 → u ≡ v

-- THE TRAP: the code has room for fifteen symbols, and a word has ten. Where a word's values are those of one change or two, one of them to a
-- symbol that it does not have, it is refused.
abbrev pub AbsentRefused : Type 0
AbsentRefused =
    (w i x q y : ℕ) → w < 16 ^ 10 → 10 ≤ i → i < 15 → 0 < x → x < 16 → q < 15 → y < 16 → (i ≡ q → ⊥)
    → ((j : ℕ) → j < 4 → value 10 (6 + j) (λ k. symbol k w) ≡ bit_xor (product x (power ((6 + j) * i))) (product y (power ((6 + j) * q))))
    → reading w ≡ record { refusal = 14; read = 0 }

-- THE HEADER, with error control and without it
pub record HeaderRead (on : Bool) : Type 0 where
  -- a header that was written, and came with no more symbols changed, is read as it was sent
  pub as_sent : (head : ℕ) (behind came : List ℕ) → head < 2 ^ 48 → 8 ≤ length came → Legible on (own_written on head ++ behind) came
      → own_header on came ≡ record { refusal = 0; read = head }
  -- one that is not refused is read as one that was written and came so
  pub sent_so : (came : List ℕ) → AllOctets came → 8 ≤ length came → (own_header on came).refusal ≡ 0
      → ((own_header on came).read < 2 ^ 48) × Legible on (own_written on (own_header on came).read ++ drop (own_octets on) came) came
  -- and any other is refused by 14
  pub refused : (came : List ℕ) → ((own_header on came).refusal ≡ 0) ⊎ (own_header on came ≡ record { refusal = 14; read = 0 })

pub record Repairs : Type 0 where
  pub the_code : TheCode
  pub absent_refused : AbsentRefused
  pub header_read : (on : Bool) → HeaderRead on
