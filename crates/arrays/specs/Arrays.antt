-- Arrays of numbers after they were written to, and numbers that have to fit fewer bits.
use Rattle.std.specs.Prelude.{ℕ, min, List, Bool, length, eqb}
use Rattle.octets.specs.Basics.{pick, fits, laid}

-- an array with the answer's numbers laid over its front
abbrev pub told : List ℕ → List ℕ → List ℕ
told array numbers = laid array 0 numbers

-- a record's array after a call: a refusal leaves it as it was
abbrev pub kept : ℕ → List ℕ → List ℕ → List ℕ
kept refusal array numbers = pick (eqb refusal 0) (told array numbers) array

-- what such a call answers: its refusal, or 2 where the numbers do not fit
abbrev pub handed_on : ℕ → List ℕ → List ℕ → ℕ
handed_on refusal array numbers = pick (eqb refusal 0) (pick (fits array 0 (length numbers)) 0 2) refusal

-- a yes or no as a number
abbrev pub bit : Bool → ℕ
bit b = pick b 1 0

-- a number as an octet, and as one of 32 bits: one that does not fit is the greatest that does, which no rule lets through
abbrev pub octet_of : ℕ → ℕ
octet_of n = min n 255

abbrev pub count_of : ℕ → ℕ
count_of n = min n 4294967295
