-- What a step answers, in document 01's numbers.
use Rattle.std.specs.Prelude.{ℕ, Bool}

-- it is refused by this number; a packet lies in the frame, from `start` on, or at the front of the store, has so many octets, and is idle or
-- not; the rest of the zone is damaged, and how; the frame is spent
pub data Found : Type 0 where
  Refused : ℕ → Found
  InFrame : ℕ → ℕ → Bool → Found
  InStore : ℕ → Bool → Found
  Damaged : ℕ → Found
  Spent : Found
