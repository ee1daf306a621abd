-- Demand 2's list: what is multiplexed with care, closed by a flush, is carried.
use Rattle.std.specs.Prelude.{ℕ, ◌%◌, ◌^◌, ◌≤◌, ◌<◌, ◌≡◌, List, [], ◌++◌, map, true, length, get_or}
use Rattle.octets.specs.Basics.{All}
use Rattle.packets.specs.Packet.{WellFormed, end_to_end}
use Rattle.frames.specs.Link.{count_width}
use Rattle.frames.specs.Frame.{in_range, frame_length, count}
use Rattle.frames.specs.declared.Settings.{Settings}
use Rattle.multiplexer.specs.Calls.{Call, to_put}
use Rattle.carries.specs.Carries.{Carries}
use Rattle.carries.specs.Careful.{Sending, run, filler, offered, Formed}

-- settings in range, and for each frame a buffer that is long enough
pub record Lends (s : Settings) (lend : ℕ → List ℕ) : Type 0 where
  pub ranged : in_range s ≡ true
  pub enough : (n : ℕ) → frame_length s ≤ length (lend n)

-- no call is refused; the frames carry exactly what was offered; and their counts are 0, 1, 2 and so on round the wheel
pub record Delivers (s : Settings) (cs : List Call) (x : Sending) : Type 0 where
  pub accepted : All (λ refusal. refusal ≡ 0) x.refusals
  pub carries : Carries s x.written (offered s 0 cs)
  pub counted : (i : ℕ) → i < length x.written → count s (get_or x.written i []) ≡ i % 2 ^ count_width s.link

-- Any orders, packets with flushes and idle zones anywhere between them, closed by a flush: the packets are carried in their
-- order, with the flushes' idle packets in their places.
abbrev pub OrdersCarried : Type 0
OrdersCarried = (s : Settings) (lend : ℕ → List ℕ) (cs : List Call) → Lends s lend → All (Formed s) cs → Delivers s cs (run s lend cs)

-- A list of packets, closed by a flush: that list, and then the flush's idle packet if it wrote one.
abbrev pub ListCarried : Type 0
ListCarried = (s : Settings) (lend : ℕ → List ℕ) (ps : List (List ℕ)) → Lends s lend → All (WellFormed s.limit) ps
    → Carries s (run s lend (map to_put ps)).written (ps ++ filler s (length (end_to_end ps) % s.zone))
