-- What a call of the C interface leaves behind: its answer, and whatever was lent to it and may be written.
use Rattle.std.specs.Prelude.{ℕ, List}

-- the refusal, or 0; the record's array, the lent octets and the answer's array, each empty where the call has none
pub record Left : Type 0 where
  pub refusal : ℕ
  pub numbers : List ℕ
  pub octets : List ℕ
  pub answer : List ℕ

abbrev pub left : ℕ → List ℕ → List ℕ → List ℕ → Left
left refusal numbers octets answer = record { refusal = refusal; numbers = numbers; octets = octets; answer = answer }
