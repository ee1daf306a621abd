-- An extractor used through the C interface: frames entered and stepped until they are spent, over arrays of numbers.
use Rattle.std.specs.Prelude.{ℕ, zero, suc, ◌+◌, ◌≤◌, ◌≡◌, List, [], ◌∷◌, ◌++◌, length, drop, get_or, eqb}
use Rattle.octets.specs.Basics.{pick}
use Rattle.extractor.specs.Extract.{Event, Told, refused, taken}
use Rattle.extractor.specs.Answers.{EnterNumbers}
use Rattle.extractor.specs.Calls.{event_at, Finds, goes_on, all_said, Listened}
use Rattle.extractor.specs.Found.{Found, Refused, InFrame, InStore, Damaged, Spent}
use Rattle.arrays.specs.Arrays.{told}
use Rattle.exports.specs.Left.{Left}
use Rattle.exports.specs.Channel.{settings_of}
use Rattle.exports.specs.Extract.{extractor_of, enter_leaves, step_leaves}
use Rattle.exports.specs.Statements.{part_named}

-- what a caller has between calls: the record's array, the store and the answer's array
pub record Holding : Type 0 where
  pub numbers : List ℕ
  pub store : List ℕ
  pub answer : List ℕ

abbrev pub holding : List ℕ → List ℕ → List ℕ → Holding
holding numbers store answer = record { numbers = numbers; store = store; answer = answer }

-- the start of an extractor, and of a judge: four zeros laid into the record's array
abbrev pub zeroed : List ℕ → List ℕ
zeroed array = told array (0 ∷ 0 ∷ 0 ∷ 0 ∷ [])

-- ---- what a caller reads

-- after `itz_extractor_enter`, which returned this refusal
abbrev pub read_entry : ℕ → List ℕ → EnterNumbers
read_entry refusal answer = record {
  refusal = refusal;
  outcome = get_or answer 0 0;
  count = get_or answer 1 0;
  replay = get_or answer 2 0;
  lost = get_or answer 3 0;
  dropped = get_or answer 4 0;
  reason = get_or answer 5 0;
  damage = get_or answer 6 0;
}

-- after `itz_extractor_step`: [0] is 1 for a packet, 2 for an idle one, 3 for damaged and 4 for spent; [1] is 1 where the packet
-- lies in the frame and 2 where it lies in the store; [2] is its start, and [3] its size; [4] is the damage
unfoldable pub read_step : ℕ → List ℕ → Found
read_step refusal answer =
    pick (eqb (get_or answer 0 0) 4) Spent
    (pick (eqb (get_or answer 0 0) 3) (Damaged (get_or answer 4 0))
    (pick (eqb (get_or answer 1 0) 1) (InFrame (get_or answer 2 0) (get_or answer 3 0) (eqb (get_or answer 0 0) 2))
    (pick (eqb (get_or answer 1 0) 2) (InStore (get_or answer 3 0) (eqb (get_or answer 0 0) 2))
    (Refused refusal))))

-- the octets that entries [1] to [3] of this answer name
abbrev pub octets_named : List ℕ → List ℕ → List ℕ → List ℕ
octets_named frame store answer = part_named frame store (drop 1 answer)

-- they lie inside
pub record Inside (frame store answer : List ℕ) : Type 0 where
  pub in_frame : get_or answer 1 0 ≡ 1 → get_or answer 2 0 + get_or answer 3 0 ≤ length frame
  pub in_store : get_or answer 1 0 ≡ 2 → get_or answer 2 0 + get_or answer 3 0 ≤ length store

-- ---- a frame

-- what some steps found and say, and what they leave
pub record SteppingInC : Type 0 where
  pub found : List Found
  pub events : List Event
  pub held : Holding

-- the same with the record that the array states
abbrev pub as_finds : SteppingInC → Finds
as_finds t =
    record { found = t.found; events = t.events; next = extractor_of t.held.numbers; store = t.held.store }

-- no step more
abbrev pub no_steps : Holding → SteppingInC
no_steps h = record { found = []; events = []; held = h }

-- `itz_extractor_step` again and again with one frame, until it says spent, as far as n steps go
unfoldable pub steps_in_c : List ℕ → List ℕ → ℕ → Holding → SteppingInC
steps_in_c settings f zero h = no_steps h
steps_in_c settings f (suc n) h =
    let l : Left = step_leaves settings h.numbers h.store f h.answer in
    let found : Found = read_step l.refusal l.answer in
    let after : Holding = holding l.numbers l.octets l.answer in
    let rest : SteppingInC = pick (goes_on found) (steps_in_c settings f n after) (no_steps after) in
    record { found = found ∷ rest.found; events = event_at found (octets_named f l.octets l.answer) ++ rest.events; held = rest.held }

-- what was said of a frame at its entering, and then by its steps
pub record FrameInC : Type 0 where
  pub entered : EnterNumbers
  pub stepped : SteppingInC

-- `itz_extractor_enter`, and where [0] is 1, which is that the frame is entered, its steps, Z + 1 at most
unfoldable pub frame_in_c : List ℕ → Holding → List ℕ → FrameInC
frame_in_c settings h f =
    let l : Left = enter_leaves settings h.numbers h.store f h.answer in
    let entered : EnterNumbers = read_entry l.refusal l.answer in
    let after : Holding = holding l.numbers h.store l.answer in
    record {
      entered = entered;
      stepped = pick (eqb entered.outcome 1) (steps_in_c settings f (suc (settings_of settings).zone) after) (no_steps after);
    }

-- all that a caller knows of a frame after it: the number that refused it, or what was said, with what record and store stand for
abbrev pub says_of : FrameInC → Told
says_of w =
    pick (eqb w.entered.outcome 1) (taken (all_said w.entered (as_finds w.stepped))) (refused w.entered.refusal)

-- ---- a run

-- what is said of each frame, and what the calls leave
pub record ListeningInC : Type 0 where
  pub told : List Told
  pub held : Holding

abbrev pub as_listened : ListeningInC → Listened
as_listened r = record { told = r.told; next = extractor_of r.held.numbers; store = r.held.store }

-- each frame entered, and stepped until it is spent; one that is refused is passed over
unfoldable pub listen_in_c : List ℕ → Holding → List (List ℕ) → ListeningInC
listen_in_c settings h [] = record { told = []; held = h }
listen_in_c settings h (f ∷ fs) =
    let w : FrameInC = frame_in_c settings h f in
    let r : ListeningInC = listen_in_c settings w.stepped.held fs in
    record { told = says_of w ∷ r.told; held = r.held }
