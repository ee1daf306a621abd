-- Calls one after another: a frame entered and stepped until it is spent, and a run of frames.
use Rattle.std.specs.Prelude.{ℕ, zero, suc, ◌≡◌, List, [], ◌∷◌, ◌++◌, Bool, true, false, eqb, Result, Ok, Err}
use Rattle.octets.specs.Basics.{pick, first, All}
use Rattle.octets.specs.Refusals.{number_of}
use Rattle.octets.specs.declared.refusals.Refusal.{Refusal}
use Rattle.frames.specs.declared.Settings.{Settings}
use Rattle.extractor.specs.Extract.{Event, torn, as_event, Said, Told, refused, taken}
use Rattle.extractor.specs.Records.{stands_for, step_rows, Stepped, step_call, shown}
use Rattle.extractor.specs.Answers.{EnterNumbers, EnterSaid, enter_answer}
use Rattle.extractor.specs.declared.Extractor.{Extractor}
use Rattle.extractor.specs.Found.{Found, Refused, InFrame, InStore, Damaged, Spent}

-- what an answer, and the octets that `show` hands back for it, say
unfoldable pub event_at : Found → List ℕ → List Event
event_at (Refused n) p = []
event_at (InFrame start size idle) p = as_event idle p ∷ []
event_at (InStore size idle) p = as_event idle p ∷ []
event_at (Damaged d) p = torn d ∷ []
event_at Spent p = []

-- what steps find and say, and the record and store that they leave
pub record Finds : Type 0 where
  pub found : List Found
  pub events : List Event
  pub next : Extractor
  pub store : List ℕ

-- one step before others
abbrev pub one_more : List ℕ → Stepped → Finds → Finds
one_more f w t = record {
  found = w.found ∷ t.found;
  events = event_at w.found (shown f w.store w.found) ++ t.events;
  next = t.next;
  store = t.store;
}

-- no step more
abbrev pub none_left : Extractor → List ℕ → Finds
none_left x store = record { found = []; events = []; next = x; store = store }

-- a packet or damage is followed by the next step
abbrev pub goes_on : Found → Bool
goes_on (Refused n) = false
goes_on (InFrame start size idle) = true
goes_on (InStore size idle) = true
goes_on (Damaged d) = true
goes_on Spent = false

-- step after step with one frame, until one does not go on, as far as n steps go
unfoldable pub steps : Settings → List ℕ → ℕ → Extractor → List ℕ → Finds
steps s f zero x store = none_left x store
steps s f (suc n) x store =
    let w : Stepped = step_call s x store f in
    one_more f w (pick (goes_on w.found) (steps s f n w.next w.store) (none_left w.next w.store))

-- all the steps of a frame that is entered
abbrev pub through : Settings → List ℕ → Extractor → List ℕ → Finds
through s f x store = steps s f (suc s.zone) x store

-- what spending a frame answers: its refusal, the record after it, and the store that it leaves
pub record SpendSaid : Type 0 where
  pub refusal : ℕ
  pub next : Extractor
  pub store : List ℕ

-- these three, put together
abbrev pub spends_to : ℕ → Extractor → List ℕ → SpendSaid
spends_to n x st = record { refusal = n; next = x; store = st }

-- what an answer says, where this was the record before
abbrev pub spend_says : Extractor → Result Extractor Refusal → List ℕ → SpendSaid
spend_says x (Err refusal) st = spends_to (number_of refusal) x st
spend_says x (Ok next) st = spends_to 0 next st

-- what the rules give: a step that is refused is the last one, and leaves all as it was
unfoldable pub spend_answer : Settings → Extractor → List ℕ → List ℕ → SpendSaid
spend_answer s x store f =
    let t : Finds = through s f x store in
    spends_to (first (step_rows s x store f)) t.next t.store

-- what step after step answers, each with a frame of its own, until one does not go on
unfoldable pub answers_to : Settings → Extractor → List ℕ → List (List ℕ) → List Found
answers_to s x store [] = []
answers_to s x store (g ∷ gs) =
    let w : Stepped = step_call s x store g in
    w.found ∷ pick (goes_on w.found) (answers_to s w.next w.store gs) []

-- the last answer, and no earlier one, is that the frame is spent; and none is a refusal
abbrev pub SpentLast : List Found → Type 0
SpentLast found = (before : List Found) × (found ≡ before ++ (Spent ∷ [])) × All (λ a. goes_on a ≡ true) before

-- all that the calls say of a frame that is entered
abbrev pub all_said : EnterNumbers → Finds → Said
all_said e t = record {
  count = e.count;
  replay = e.replay;
  lost = e.lost;
  dropped = e.dropped;
  reason = e.reason;
  damage = e.damage;
  events = t.events;
  state = stands_for t.store t.next;
}

-- what a run of calls says of each frame, and what it leaves
pub record Listened : Type 0 where
  pub told : List Told
  pub next : Extractor
  pub store : List ℕ

-- one frame before others
abbrev pub tells : Told → Listened → Listened
tells t l = record { told = t ∷ l.told; next = l.next; store = l.store }

-- each frame entered, and stepped until it is spent; one that is refused is passed over
unfoldable pub listen : Settings → Extractor → List ℕ → List (List ℕ) → Listened
listen s x store [] = record { told = []; next = x; store = store }
listen s x store (f ∷ fs) =
    let e : EnterSaid = enter_answer s x store f in
    let t : Finds = through s f e.next store in
    pick (eqb e.answer.refusal 0)
    (tells (taken (all_said e.answer t)) (listen s t.next t.store fs))
    (tells (refused e.answer.refusal) (listen s e.next store fs))
