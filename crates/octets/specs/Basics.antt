-- Choices, octets and numbers, tables of refusals, and octets written over others.
use Rattle.std.specs.Prelude.{ℕ, zero, suc, ◌+◌, ◌-◌, ◌*◌, ◌/◌, ◌%◌, ◌^◌, ◌<◌, List, [], ◌∷◌, ◌++◌, Bool, true, false, ◌≡◌, length, take, drop, leb}

abbrev pub pick {ℓ} : {A : Type ℓ} → Bool → A → A → A
pick true a b = a
pick false a b = b

abbrev pub and : Bool → Bool → Bool
and true b = b
and false b = false

abbrev pub or : Bool → Bool → Bool
or true b = true
or false b = b

abbrev pub All {ℓ} : {A : Type ℓ} → (A → Type 0) → List A → Type 0
All P [] = Unit {0}
All P (a ∷ rest) = P a × All P rest

-- every element is an octet
abbrev pub AllOctets : List ℕ → Type 0
AllOctets os = All (λ o. o < 256) os

-- the number that octets make, the most significant first
unfoldable pub number_from : ℕ → List ℕ → ℕ
number_from n [] = n
number_from n (o ∷ os) = number_from (n * 256 + o) os

unfoldable pub number : List ℕ → ℕ
number os = number_from 0 os

-- a number as so many octets, the most significant first
unfoldable pub octets : ℕ → ℕ → List ℕ
octets zero n = []
octets (suc k) n = n / 256 ^ k % 256 ∷ octets k n

-- the octets from `from` up to `to`
unfoldable pub part : ℕ → ℕ → List ℕ → List ℕ
part from to os = take (to - from) (drop from os)

-- the first n parts of `size` octets each, which lie end to end
unfoldable pub cut : ℕ → ℕ → List ℕ → List (List ℕ)
cut zero size os = []
cut (suc n) size os = take size os ∷ cut n size (drop size os)

-- `os` written over `buffer` from `at` on
unfoldable pub over : List ℕ → ℕ → List ℕ → List ℕ
over buffer at os = take at buffer ++ (os ++ drop (at + length os) buffer)

-- a row of a table of refusals: its number, and whether what it stands for is so
pub record Row : Type 0 where
  pub refusal : ℕ
  pub holds : Bool

abbrev pub row : ℕ → Bool → Row
row n b = record { refusal = n; holds = b }

-- the first row that holds; 0 where none does
unfoldable pub first : List Row → ℕ
first [] = 0
first (r ∷ rs) = pick r.holds r.refusal (first rs)

-- whether the n octets from `at` lie within others
abbrev pub fits : List ℕ → ℕ → ℕ → Bool
fits os at n = leb (at + n) (length os)

-- the number in the n octets from `at`; 0 where they run past the end
unfoldable pub number_at : ℕ → ℕ → List ℕ → ℕ
number_at n at os = pick (fits os at n) (number (take n (drop at os))) 0

-- so many octets from `start`; none where they run past the end
unfoldable pub part_of : List ℕ → ℕ → ℕ → List ℕ
part_of os start size = pick (fits os start size) (take size (drop start os)) []

-- `os` written over `buffer` from `at` where it fits; `buffer` as it was where not
unfoldable pub laid : List ℕ → ℕ → List ℕ → List ℕ
laid buffer at os = pick (fits buffer at (length os)) (over buffer at os) buffer

-- whether `os` has octets from `from` up to `to`, and they fit
abbrev pub part_fits : List ℕ → ℕ → ℕ → ℕ → List ℕ → Bool
part_fits buffer at from to os = and (and (leb from to) (leb to (length os))) (fits buffer at (to - from))

-- these octets written over `buffer` from `at`; `buffer` as it was where they do not fit
unfoldable pub laid_part : List ℕ → ℕ → ℕ → ℕ → List ℕ → List ℕ
laid_part buffer at from to os = pick (part_fits buffer at from to os) (over buffer at (part from to os)) buffer

-- what a call that writes answers and leaves: 0, or 2 where there is no room; and the buffer, written over or as it was
pub record Lays (room : Bool) (written : List ℕ) (r : ℕ) (buffer : List ℕ) : Type 0 where
  pub answer : r ≡ pick room 0 2
  pub left : buffer ≡ written
