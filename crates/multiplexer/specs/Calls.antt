-- The multiplexer's calls as one type: what each is refused for, what it does, and what it answers.
use Rattle.std.specs.Prelude.{◌≡◌, ℕ, List, Bool, true, false, Result, Ok, Err, length, eqb}
use Rattle.octets.specs.Basics.{pick, Row, first}
use Rattle.octets.specs.Refusals.{number_of}
use Rattle.octets.specs.declared.refusals.Refusal.{Refusal}
use Rattle.packets.specs.Packet.{carried}
use Rattle.packets.specs.Damage.{damage_or_0}
use Rattle.packets.specs.declared.damage.Refused.{Refused}
use Rattle.frames.specs.declared.Settings.{Settings}
use Rattle.multiplexer.specs.Multiplex.{Put, put_rows, put, flush_rows, flush, idle_rows, idle_frame}
use Rattle.multiplexer.specs.declared.Mux.{Mux}
use Rattle.multiplexer.specs.declared.Done.{Done}

pub data Call : Type 0 where
  to_put : List ℕ → Call
  to_flush : Call
  to_idle : Call

abbrev pub call_rows : Settings → Mux → Call → ℕ → List Row
call_rows s m (to_put p) room = put_rows s m p room
call_rows s m to_flush room = flush_rows s m room
call_rows s m to_idle room = idle_rows s m room

abbrev pub call : Settings → Mux → Call → List ℕ → Put
call s m (to_put p) frame = put s m p frame
call s m to_flush frame = flush s m frame
call s m to_idle frame = idle_frame s m frame

-- what a refusal says of the packet that was lent; a flush and an idle zone are lent none
abbrev pub call_damage : Settings → Call → ℕ → ℕ
call_damage s (to_put p) n = carried n s.limit p
call_damage s to_flush n = 0
call_damage s to_idle n = 0

-- what a call answers, in document 01's numbers, and the frame that it leaves
pub record Answer : Type 0 where
  -- whether the call is accepted; the refusal, or 0; what is wrong with the header of a packet refused by 8, or 0
  pub accepted : Bool
  pub refusal : ℕ
  pub damage : ℕ
  -- whether the zone is full, and whether the packet is taken
  pub full : Bool
  pub taken : Bool
  -- the record to go on with
  pub mux : Mux
  pub frame : List ℕ

-- a refusal leaves the record and the frame that it was given
abbrev pub refusing : ℕ → ℕ → Mux → List ℕ → Answer
refusing n damage m frame = record { accepted = false; refusal = n; damage = damage; full = false; taken = false; mux = m; frame = frame }

abbrev pub doing : Put → Answer
doing w = record { accepted = true; refusal = 0; damage = 0; full = w.full; taken = w.taken; mux = w.mux; frame = w.frame }

-- what a call did, and the frame that is left behind
abbrev pub left_by : Done → List ℕ → Put
left_by d frame = record { full = d.full; taken = d.taken; mux = d.mux; frame = frame }

-- the values of a put's answer to the record m, and the frame that is left behind
unfoldable pub answers : Mux → Result Done Refused → List ℕ → Answer
answers m (Ok d) frame = doing (left_by d frame)
answers m (Err r) frame = refusing (number_of r.refusal) (damage_or_0 r.damage) m frame

-- the same of a flush and of an idle zone, which are lent no packet
unfoldable pub answers_alone : Mux → Result Done Refusal → List ℕ → Answer
answers_alone m (Ok d) frame = doing (left_by d frame)
answers_alone m (Err r) frame = refusing (number_of r) 0 m frame

-- THE RULE OF EVERY CALL: the first row that holds refuses it; where none holds it is carried out
unfoldable pub answer : Settings → Mux → Call → List ℕ → Answer
answer s m c frame =
    let n : ℕ = first (call_rows s m c (length frame)) in
    pick (eqb n 0) (doing (call s m c frame)) (refusing n (call_damage s c n) m frame)

-- an answer and the frame that is left behind meet the promise of a call to the record m
pub record Outcome (A : Type 0) : Type 0 where
  pub said : A
  pub frame : List ℕ

abbrev pub Meets : {A : Type 0} → (Mux → A → List ℕ → Answer) → Mux → Outcome A → Answer → Type 0
Meets by m o a = by m o.said o.frame ≡ a
