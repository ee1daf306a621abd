-- What the numbers of a lent array state.
use Rattle.std.specs.Prelude.{◌≡◌, ℕ, ◌<◌, ◌≤◌, List, length, Option, MatchOption}

-- what is read out of an array: none where it has fewer than n numbers, else what its numbers state
abbrev pub Stated : {A : Type 0} → ℕ → (List ℕ → A) → List ℕ → Option A → Type 0
Stated n of numbers read = MatchOption read (length numbers < n) (λ a. (n ≤ length numbers) × (a ≡ of numbers))
