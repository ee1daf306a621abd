-- The numbers of refusals, as document 01's table has them.
use Rattle.std.specs.Prelude.{ℕ, Result, Ok, Err}
use Rattle.octets.specs.declared.refusals.Refusal.{Refusal}

abbrev pub number_of : Refusal → ℕ
number_of Refusal.Setting = 1
number_of Refusal.Room = 2
number_of Refusal.Length = 3
number_of Refusal.Version = 4
number_of Refusal.Channel = 5
number_of Refusal.Spare = 6
number_of Refusal.Pointer = 7
number_of Refusal.Packet = 8
number_of Refusal.Moment = 9
number_of Refusal.Record = 10
number_of Refusal.Frames = 11
number_of Refusal.Table = 12
number_of Refusal.Trailer = 13

-- what a call is refused for: 0 where it is not
abbrev pub refusal_of : {A : Type 0} → Result A Refusal → ℕ
refusal_of (Ok _) = 0
refusal_of (Err r) = number_of r
