-- The extractor's written rules, over the octets themselves: no store, no cursor, no record.
use Rattle.std.specs.Prelude.{ℕ, zero, suc, ◌-◌, List, [], ◌∷◌, ◌++◌, Bool, true, false, length, take, drop, leb, ltb, eqb}
use Rattle.std.proofs.Math.Option.{Option, none, some}
use Rattle.octets.specs.Basics.{pick, or, first}
use Rattle.packets.specs.Packet.{Look, more, damaged, whole, look, damage_in, is_idle}
use Rattle.frames.specs.Frame.{idle_zone, no_start, pointer, count, replay, zone_of, frame_rows}
use Rattle.frames.specs.Link.{missing, count_width}
use Rattle.frames.specs.declared.Settings.{Settings}

-- out of step, or in step with the octets of a packet begun earlier
pub data Step : Type 0 where
  astray : Step
  in_step : List ℕ → Step

-- the count of the last frame, if there was one, and the step
pub record State : Type 0 where
  pub last : Option ℕ
  pub step : Step

-- the start: out of step, no last count
abbrev pub fresh : State
fresh = record { last = none; step = astray }

-- what is handed over of a zone: a packet, an idle packet, or that the rest is damaged, and how
pub data Event : Type 0 where
  packet : List ℕ → Event
  idle : List ℕ → Event
  torn : ℕ → Event

-- a packet that is marked idle or not
abbrev pub as_event : Bool → List ℕ → Event
as_event mark p = pick mark (idle p) (packet p)

-- a packet marked as it is
abbrev pub event_of : List ℕ → Event
event_of p = as_event (is_idle p) p

-- packets as events, idle ones marked
abbrev pub marked : List (List ℕ) → List Event
marked [] = []
marked (p ∷ ps) = event_of p ∷ marked ps

-- whether damage is among some events
abbrev pub any_torn : List Event → Bool
any_torn [] = false
any_torn (packet p ∷ es) = any_torn es
any_torn (idle p ∷ es) = any_torn es
any_torn (torn d ∷ es) = true

-- what a walk of some octets gives: its events, and the step that it leaves
pub record Walked : Type 0 where
  pub events : List Event
  pub leaves : Step

-- an event before the others
abbrev pub after : Event → Walked → Walked
after e w = record { events = e ∷ w.events; leaves = w.leaves }

-- a walk that ends so
abbrev pub ends : List Event → Step → Walked
ends es s = record { events = es; leaves = s }

-- The walk of `os`, which begin a packet. A packet has an octet at least, so as many turns as there are octets are enough.
unfoldable pub walk_look : (List ℕ → Walked) → List ℕ → Look → Walked
walk_look go os more = ends [] (in_step os)
walk_look go os (damaged d) = ends (torn d ∷ []) astray
walk_look go os (whole l) =
    pick (leb l (length os)) (after (event_of (take l os)) (go (drop l os))) (ends [] (in_step os))

unfoldable pub walk_turns : ℕ → ℕ → List ℕ → Walked
walk_turns zero limit os = ends [] (in_step os)
walk_turns (suc n) limit os = walk_look (λ rest. walk_turns n limit rest) os (look limit os)

unfoldable pub walk : ℕ → List ℕ → Walked
walk limit os = walk_turns (length os) limit os

-- The pointers that agree with `held` before the zone `z`. Where the header that they now make whole is damaged there is none.
unfoldable pub agreed_look : Settings → List ℕ → Look → Option (List ℕ)
agreed_look s held more = some (no_start ∷ [])
agreed_look s held (damaged d) = none
agreed_look s held (whole l) =
    some (pick (ltb (l - length held) s.zone) (l - length held) no_start ∷ [])

-- with nothing held a packet starts at once, or the zone is idle
unfoldable pub agreed : Settings → List ℕ → List ℕ → Option (List ℕ)
agreed s [] z = some (0 ∷ idle_zone ∷ [])
agreed s (o ∷ os) z = agreed_look s (o ∷ os) (look s.limit ((o ∷ os) ++ z))

-- whether a number is in a list
abbrev pub member : ℕ → List ℕ → Bool
member n [] = false
member n (m ∷ ms) = or (eqb n m) (member n ms)

-- why the octets held are dropped: 0 they are not, 1 frames are missing, 2 the pointer differs, 3 their header is damaged
unfoldable pub reason_by : ℕ → Option (List ℕ) → ℕ
reason_by p none = 3
reason_by p (some ps) = pick (member p ps) 0 2

-- the same of a step that is compared with a frame: out of step nothing is
unfoldable pub reason_in : Settings → Step → List ℕ → ℕ
reason_in s astray f = 0
reason_in s (in_step held) f = reason_by (pointer s f) (agreed s held (zone_of s f))

-- how many frames are missing before the count c
unfoldable pub lost_since : Settings → Option ℕ → ℕ → ℕ
lost_since s none c = 0
lost_since s (some last) c = missing (count_width s.link) last c

-- the octets held
abbrev pub held_of : Step → List ℕ
held_of astray = []
held_of (in_step held) = held

-- missing frames come first
unfoldable pub reason_of : Settings → State → List ℕ → ℕ
reason_of s x f = pick (eqb (lost_since s x.last (count s f)) 0) (reason_in s x.step f) 1

-- what is wrong with the header of the octets held, where they are dropped for it; 0 with any other reason
unfoldable pub damage_of : Settings → State → List ℕ → ℕ
damage_of s x f = pick (eqb (reason_of s x f) 3) (damage_in (look s.limit (held_of x.step ++ zone_of s f))) 0

-- the step that is left after the comparison
unfoldable pub step_of : Settings → State → List ℕ → Step
step_of s x f = pick (eqb (reason_of s x f) 0) x.step astray

-- what the zone gives from there
unfoldable pub walked : Settings → Step → List ℕ → Walked
walked s astray f =
    pick (eqb (pointer s f) idle_zone) (ends [] (in_step []))
    (pick (eqb (pointer s f) no_start) (ends [] astray)
    (walk s.limit (drop (pointer s f) (zone_of s f))))
walked s (in_step held) f =
    pick (eqb (pointer s f) idle_zone) (ends [] (in_step held)) (walk s.limit (held ++ zone_of s f))

-- all that the extractor says of one frame, and the state after it
pub record Said : Type 0 where
  pub count : ℕ
  pub replay : ℕ
  pub lost : ℕ
  pub dropped : ℕ
  pub reason : ℕ
  pub damage : ℕ
  pub events : List Event
  pub state : State

-- entering the frame and walking its zone
unfoldable pub take_in : Settings → State → List ℕ → Said
take_in s x f =
    let w : Walked = walked s (step_of s x f) f in
    record {
      count = count s f;
      replay = replay s f;
      lost = lost_since s x.last (count s f);
      dropped = pick (eqb (reason_of s x f) 0) 0 (length (held_of x.step));
      reason = reason_of s x f;
      damage = damage_of s x f;
      events = w.events;
      state = record { last = some (count s f); step = w.leaves };
    }

-- ---- whole runs

-- what is said of a frame of a run: the number that refuses it, or all of the above
pub data Told : Type 0 where
  refused : ℕ → Told
  taken : Said → Told

-- what is said of each frame; one that is refused leaves the state as it was
unfoldable pub told : Settings → State → List (List ℕ) → List Told
told s x [] = []
told s x (f ∷ fs) =
    let n : ℕ = first (frame_rows s f) in
    let t : Said = take_in s x f in
    pick (eqb n 0) (taken t ∷ told s t.state fs) (refused n ∷ told s x fs)

-- the events among what is said
abbrev pub events_in : List Told → List Event
events_in [] = []
events_in (refused n ∷ ts) = events_in ts
events_in (taken t ∷ ts) = t.events ++ events_in ts

-- what is heard of a run
unfoldable pub heard : Settings → State → List (List ℕ) → List Event
heard s x fs = events_in (told s x fs)
