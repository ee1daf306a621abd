-- What a reader of standard input holds.
use Rattle.std.specs.Prelude.{ℕ, List}

-- the body of the last record, and the octets behind it that are read and not yet taken
pub record Held : Type 0 where
  pub body : List ℕ
  pub unread : List ℕ
