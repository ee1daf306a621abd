-- Headers with their check symbols, and headers with changed symbols: as they are read, or refused.
use Rattle.std.specs.Prelude.{ℕ, ◌≡◌, [], ◌∷◌, map}
use Rattle.repair.specs.Field.{power}
use Rattle.repair.specs.Code.{Answer}
use Rattle.repair.specs.Header.{header_checks, header_reading}

-- a header that is read, and the refusal
abbrev pub says : ℕ → Answer
says head = record { refusal = 0; read = head }

abbrev pub beyond_repair : Answer
beyond_repair = record { refusal = 14; read = 0 }

pub record Vectors : Type 0 where
  -- the powers of the root, and the first of them again
  pub powers : map power (0 ∷ 1 ∷ 2 ∷ 3 ∷ 4 ∷ 5 ∷ 6 ∷ 7 ∷ 8 ∷ 9 ∷ 10 ∷ 11 ∷ 12 ∷ 13 ∷ 14 ∷ 15 ∷ [])
      ≡ 1 ∷ 2 ∷ 4 ∷ 8 ∷ 3 ∷ 6 ∷ 12 ∷ 11 ∷ 5 ∷ 10 ∷ 7 ∷ 14 ∷ 15 ∷ 13 ∷ 9 ∷ 1 ∷ []
  -- as they are written; the count does not matter
  pub written : map header_checks (0x508300000000 ∷ 0x508300000180 ∷ 0x400000000000 ∷ 0x7FFE00000000 ∷ 0x7FFFFFFFFFFF ∷ 0x42C112345680 ∷ 0x42C100000080 ∷ [])
      ≡ 0x27EE ∷ 0xB0C2 ∷ 0x1CC1 ∷ 0x2ACC ∷ 0x46BC ∷ 0xFDBA ∷ 0xFDBA ∷ []
  pub undamaged : header_reading 0x42C112345680 0xFDBA ≡ says 0x42C112345680
  -- one symbol changed, the first and the last; two, in the header and in its check symbols
  pub first_changed : header_reading 0xA08300000000 0x27EE ≡ says 0x508300000000
  pub last_changed : header_reading 0x508300000000 0x27EF ≡ says 0x508300000000
  pub two_changed : header_reading 0x5F7300000000 0x27EE ≡ says 0x508300000000
  pub checks_changed : header_reading 0x508300000000 0x281E ≡ says 0x508300000000
  -- the count is read as it comes
  pub count_changed : header_reading 0x508300FF0000 0x27EE ≡ says 0x508300FF0000
  -- three changed
  pub three_changed : header_reading 0x419300000000 0x27EE ≡ beyond_repair
  -- three changed, and read as another: no code of four check symbols can tell
  pub misread : header_reading 0x418300000000 0x2BEE ≡ says 0x418300000000
  -- changes that the code of fifteen symbols has in symbols that a header has not: in x^10, in x^12, in x^14, in x^11 and x^9, in x^13 and x^0
  pub absent : map (λ (after : ℕ). header_reading 0x508300000000 after) (0x3D13 ∷ 0xBFDD ∷ 0xD63F ∷ 0x682D ∷ [])
      ≡ beyond_repair ∷ beyond_repair ∷ beyond_repair ∷ beyond_repair ∷ []
  pub absent_and_first : header_reading 0x208300000000 0x431D ≡ beyond_repair
