-- The answers in document 01's numbers.
use Rattle.std.specs.Prelude.{ℕ, List, [], Bool, eqb, Option, None, Some, Result, Ok, Err}
use Rattle.octets.specs.Basics.{pick, first}
use Rattle.octets.specs.Refusals.{number_of}
use Rattle.octets.specs.declared.refusals.Refusal.{Refusal}
use Rattle.packets.specs.Damage.{damage_number}
use Rattle.frames.specs.declared.Settings.{Settings}
use Rattle.extractor.specs.Extract.{Said, take_in}
use Rattle.extractor.specs.Records.{stands_for, enter_rows, enter, Stepped, steps_to, step_call, shown}
use Rattle.extractor.specs.declared.Extractor.{Extractor}
use Rattle.extractor.specs.declared.Reason.{Reason}
use Rattle.extractor.specs.declared.Entry.{Entry}
use Rattle.extractor.specs.declared.Entering.{Entering}
use Rattle.extractor.specs.declared.Found as declared
use Rattle.extractor.specs.Found.{Found, Refused, InFrame, InStore, Damaged, Spent}
use Rattle.extractor.specs.declared.Move.{Move}

-- ---- entering

-- what entering answers: its refusal; 0 where it is refused and 1 where the frame is entered; and the six numbers
pub record EnterNumbers : Type 0 where
  pub refusal : ℕ
  pub outcome : ℕ
  pub count : ℕ
  pub replay : ℕ
  pub lost : ℕ
  pub dropped : ℕ
  pub reason : ℕ
  pub damage : ℕ

-- a refusal answers its number, and else nothing
abbrev pub refused_entry : ℕ → EnterNumbers
refused_entry n = record { refusal = n; outcome = 0; count = 0; replay = 0; lost = 0; dropped = 0; reason = 0; damage = 0 }

-- why octets held are dropped: 0 they are not, 1 frames are missing, 2 the pointer differs, 3 their header is damaged
abbrev pub reason_number : Option Reason → ℕ
reason_number None = 0
reason_number (Some Reason.FramesMissing) = 1
reason_number (Some Reason.PointerDiffers) = 2
reason_number (Some (Reason.HeaderDamaged d)) = 3

-- and with 3 what is wrong with it
abbrev pub reason_damage : Option Reason → ℕ
reason_damage None = 0
reason_damage (Some Reason.FramesMissing) = 0
reason_damage (Some Reason.PointerDiffers) = 0
reason_damage (Some (Reason.HeaderDamaged d)) = damage_number d

-- what is said of a frame that is entered, in numbers
unfoldable pub entered_numbers : Entry → EnterNumbers
entered_numbers e = record {
  refusal = 0;
  outcome = 1;
  count = e.count;
  replay = e.replay;
  lost = e.lost;
  dropped = e.dropped;
  reason = reason_number e.reason;
  damage = reason_damage e.reason;
}

-- an answer in numbers, and the record after it
pub record EnterSaid : Type 0 where
  pub answer : EnterNumbers
  pub next : Extractor

-- a call that is refused by n leaves the record as it was
abbrev pub refused_enter : Extractor → ℕ → EnterSaid
refused_enter x n = record { answer = refused_entry n; next = x }

-- what an answer says, where this was the record before
abbrev pub entering_says : Entering → EnterSaid
entering_says e = record { answer = entered_numbers e.entry; next = e.next }

abbrev pub enter_says : Extractor → Result Entering Refusal → EnterSaid
enter_says x (Err refusal) = refused_enter x (number_of refusal)
enter_says x (Ok e) = entering_says e

-- what the rules say of a frame that is entered
abbrev pub said_numbers : Said → EnterNumbers
said_numbers t =
    record { refusal = 0; outcome = 1; count = t.count; replay = t.replay; lost = t.lost; dropped = t.dropped; reason = t.reason; damage = t.damage }

-- the same, and the record after it
abbrev pub entered_as : Settings → Extractor → List ℕ → List ℕ → EnterSaid
entered_as s x store f =
    record { answer = said_numbers (take_in s (stands_for store x) f); next = enter s (stands_for store x) f }

-- what the rules give: a refusal leaves the record as it was
unfoldable pub enter_answer : Settings → Extractor → List ℕ → List ℕ → EnterSaid
enter_answer s x store f =
    let n : ℕ = first (enter_rows s x store f) in
    pick (eqb n 0) (entered_as s x store f) (refused_enter x n)

-- ---- a step

-- what a step answers: its refusal; 0 where it is refused, 1 a packet, 2 an idle packet, 3 damaged, 4 spent; where the part
-- lies, 1 in the frame, 2 in the store; and the part itself; of a damaged header what is wrong with it
pub record StepNumbers : Type 0 where
  pub refusal : ℕ
  pub outcome : ℕ
  pub place : ℕ
  pub start : ℕ
  pub size : ℕ
  pub part : List ℕ
  pub damage : ℕ

-- a refusal answers its number, no count and no part
abbrev pub refused_step : ℕ → StepNumbers
refused_step n = record { refusal = n; outcome = 0; place = 0; start = 0; size = 0; part = []; damage = 0 }

-- an answer that shows no part
abbrev pub bare : ℕ → ℕ → StepNumbers
bare outcome damage = record { refusal = 0; outcome = outcome; place = 0; start = 0; size = 0; part = []; damage = damage }

-- 1 a packet, 2 an idle packet
abbrev pub packet_or_idle : Bool → ℕ
packet_or_idle idle = pick idle 2 1

-- each case of the answer in numbers, with the part that `show` hands back of this frame and this store
unfoldable pub found_numbers : List ℕ → List ℕ → Found → StepNumbers
found_numbers f store (Refused n) = refused_step n
found_numbers f store (InFrame start size idle) =
    record { refusal = 0; outcome = packet_or_idle idle; place = 1; start = start; size = size; part = shown f store (InFrame start size idle); damage = 0 }
found_numbers f store (InStore size idle) =
    record { refusal = 0; outcome = packet_or_idle idle; place = 2; start = 0; size = size; part = shown f store (InStore size idle); damage = 0 }
found_numbers f store (Damaged d) = bare 3 d
found_numbers f store Spent = bare 4 0

-- an answer in numbers, the record after it, and the store that it leaves
pub record StepSaid : Type 0 where
  pub answer : StepNumbers
  pub next : Extractor
  pub store : List ℕ

-- an outcome in numbers
abbrev pub said : List ℕ → Stepped → StepSaid
said f w = record { answer = found_numbers f w.store w.found; next = w.next; store = w.store }

-- what a step found, in numbers
abbrev pub as_found : declared.Found → Found
as_found (declared.Found.InFrame start size idle) = InFrame start size idle
as_found (declared.Found.InStore size idle) = InStore size idle
as_found (declared.Found.Damaged d) = Damaged (damage_number d)
as_found declared.Found.Spent = Spent

-- what a step found, or what it is refused for, in numbers
abbrev pub found_or_refused : Result declared.Found Refusal → Found
found_or_refused (Err refusal) = Refused (number_of refusal)
found_or_refused (Ok found) = as_found found

-- an answer, in numbers
abbrev pub answered : Result Move Refusal → Found
answered (Err refusal) = Refused (number_of refusal)
answered (Ok m) = as_found m.found

-- what a step found, and the record and the store that it leaves
abbrev pub move_says : Move → List ℕ → Stepped
move_says m st = steps_to (as_found m.found) m.next st

-- the same of an answer, where this was the record before
abbrev pub stepped : Extractor → Result Move Refusal → List ℕ → Stepped
stepped x (Err refusal) st = steps_to (Refused (number_of refusal)) x st
stepped x (Ok m) st = move_says m st

-- what an answer says
abbrev pub step_says : Extractor → Result Move Refusal → List ℕ → List ℕ → StepSaid
step_says x m f st = said f (stepped x m st)

-- what the rules give
unfoldable pub step_answer : Settings → Extractor → List ℕ → List ℕ → StepSaid
step_answer s x store f = said f (step_call s x store f)
