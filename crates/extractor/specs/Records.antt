-- The extractor call by call: over a record, a lent store and a lent frame.
use Rattle.std.specs.Prelude.{ℕ, ◌+◌, ◌-◌, ◌^◌, List, [], ◌∷◌, ◌++◌, Bool, true, false, not, length, take, drop, leb, ltb, eqb}
use Rattle.std.proofs.Math.Option.{Option, none, some}
use Rattle.octets.specs.Basics.{pick, and, or, part_of, over, first, Row, row}
use Rattle.packets.specs.Packet.{Look, more, damaged, whole, look, is_idle}
use Rattle.frames.specs.Frame.{idle_zone, no_start, in_range, frame_length, frame_rows, pointer, count, zone_of}
use Rattle.frames.specs.Link.{zone_at, count_width}
use Rattle.frames.specs.declared.Settings.{Settings}
use Rattle.extractor.specs.Extract.{Step, astray, in_step, State, step_of}
use Rattle.extractor.specs.declared.Extractor.{Extractor}
use Rattle.extractor.specs.declared.Extractor.TheVariants.{Fresh, Astray, InStep, Walking, Leaving}
use Rattle.extractor.specs.Found.{Found, Refused, InFrame, InStore, Damaged, Spent}

-- ---- the records that the rules can reach

-- octets that begin a packet which is not yet damaged and is longer than they are
unfoldable pub unfinished : ℕ → Look → Bool
unfinished n more = true
unfinished n (damaged d) = false
unfinished n (whole l) = ltb n l

-- the first h octets of the store are such, or there are none
unfoldable pub holds_well : Settings → List ℕ → ℕ → Bool
holds_well s store h = or (eqb h 0) (and (leb h (length store)) (unfinished h (look s.limit (take h store))))

-- a count of the channel's width
abbrev pub on_wheel : Settings → ℕ → Bool
on_wheel s c = ltb c (2 ^ count_width s.link)

-- refusal 10 is given to any other record: octets are held before the zone only, and a walk stays in it
unfoldable pub reachable : Settings → List ℕ → Extractor → Bool
reachable s store Fresh = true
reachable s store (Astray last) = on_wheel s last
reachable s store (InStep last h) = and (on_wheel s last) (holds_well s store h)
reachable s store (Walking last h at) =
    and (on_wheel s last) (pick (eqb h 0) (leb at s.zone) (and (eqb at 0) (holds_well s store h)))
reachable s store (Leaving last) = on_wheel s last

-- what any call is refused for before it looks at the moment and the frame
abbrev pub checked : Settings → Extractor → List ℕ → List Row → List Row
checked s x store rows =
    row 1 (not (in_range s))
    ∷ row 2 (ltb (length store) s.limit)
    ∷ row 10 (not (reachable s store x))
    ∷ rows

-- a frame is entered and not yet spent
unfoldable pub is_entered : Extractor → Bool
is_entered Fresh = false
is_entered (Astray last) = false
is_entered (InStep last h) = false
is_entered (Walking last h at) = true
is_entered (Leaving last) = true

-- the count of the last frame that was entered
abbrev pub last_count : Extractor → Option ℕ
last_count Fresh = none
last_count (Astray last) = some last
last_count (InStep last h) = some last
last_count (Walking last h at) = some last
last_count (Leaving last) = some last

-- the step that the record is in, with the octets held
abbrev pub step_in : List ℕ → Extractor → Step
step_in store Fresh = astray
step_in store (Astray last) = astray
step_in store (InStep last h) = in_step (take h store)
step_in store (Walking last h at) = in_step (take h store)
step_in store (Leaving last) = astray

-- the same as a test, and how many octets are held
abbrev pub is_in_step : Extractor → Bool
is_in_step Fresh = false
is_in_step (Astray last) = false
is_in_step (InStep last h) = true
is_in_step (Walking last h at) = true
is_in_step (Leaving last) = false

abbrev pub held_in : Extractor → ℕ
held_in Fresh = 0
held_in (Astray last) = 0
held_in (InStep last h) = h
held_in (Walking last h at) = h
held_in (Leaving last) = 0

-- what a record stands for in the rules
unfoldable pub stands_for : List ℕ → Extractor → State
stands_for store x = record { last = last_count x; step = step_in store x }

-- ---- entering

-- what entering is refused for, in order
unfoldable pub enter_rows : Settings → Extractor → List ℕ → List ℕ → List Row
enter_rows s x store f = checked s x store (row 9 (is_entered x) ∷ frame_rows s f)

-- where the walk sets out in step with h octets held, or out of step: an idle zone is walked from its end
unfoldable pub set_off : Settings → ℕ → ℕ → Bool → ℕ → Extractor
set_off s c p inside h =
    pick (eqb p idle_zone) (Walking c h s.zone)
    (pick inside (Walking c h 0)
    (pick (eqb p no_start) (Leaving c) (Walking c 0 p)))

-- the same from the step that the comparison left
abbrev pub set_out : Settings → ℕ → ℕ → Step → Extractor
set_out s c p astray = set_off s c p false 0
set_out s c p (in_step held) = set_off s c p true (length held)

-- the record after a frame is entered
unfoldable pub enter : Settings → State → List ℕ → Extractor
enter s st f = set_out s (count s f) (pointer s f) (step_of s st f)

-- ---- a step

-- what a step is refused for, in order
unfoldable pub step_rows : Settings → Extractor → List ℕ → List ℕ → List Row
step_rows s x store f = checked s x store (row 9 (not (is_entered x)) ∷ row 3 (not (eqb (length f) (frame_length s))) ∷ [])

-- what a step finds, the record after it, and the store that it leaves
pub record Stepped : Type 0 where
  pub found : Found
  pub next : Extractor
  pub store : List ℕ

-- these three, put together
abbrev pub steps_to : Found → Extractor → List ℕ → Stepped
steps_to a x st = record { found = a; next = x; store = st }

-- the zone's octets that are left join those held
abbrev pub kept_for_later : List ℕ → ℕ → ℕ → List ℕ → Stepped
kept_for_later store last h rest = steps_to Spent (InStep last (h + length rest)) (over store h rest)

-- the next l octets, those held first, are handed over
unfoldable pub handed_over : Settings → List ℕ → ℕ → ℕ → ℕ → List ℕ → ℕ → Stepped
handed_over s store last h at rest l =
    let idle : Bool = is_idle (take l (take h store ++ rest)) in
    pick (eqb h 0)
    (steps_to (InFrame (zone_at s.link + at) l idle) (Walking last 0 (at + l)) store)
    (steps_to (InStore l idle) (Walking last 0 (at + (l - h))) (over store h (take (l - h) rest)))

-- a step at `at` of the zone, of which `rest` is left, by what the octets held and these say
unfoldable pub step_look : Settings → List ℕ → ℕ → ℕ → ℕ → List ℕ → Look → Stepped
step_look s store last h at rest more = kept_for_later store last h rest
step_look s store last h at rest (damaged d) = steps_to (Damaged d) (Leaving last) store
step_look s store last h at rest (whole l) =
    pick (leb l (h + length rest)) (handed_over s store last h at rest l) (kept_for_later store last h rest)

-- a step that is not refused
unfoldable pub step : Settings → List ℕ → List ℕ → Extractor → Stepped
step s f store Fresh = steps_to Spent Fresh store
step s f store (Astray last) = steps_to Spent (Astray last) store
step s f store (InStep last h) = steps_to Spent (InStep last h) store
step s f store (Walking last h at) =
    let rest : List ℕ = drop at (zone_of s f) in
    step_look s store last h at rest (look s.limit (take h store ++ rest))
step s f store (Leaving last) = steps_to Spent (Astray last) store

-- any step: one that is refused leaves all as it was
unfoldable pub step_call : Settings → Extractor → List ℕ → List ℕ → Stepped
step_call s x store f =
    let n : ℕ = first (step_rows s x store f) in
    pick (eqb n 0) (step s f store x) (steps_to (Refused n) x store)

-- the octets that an answer shows
unfoldable pub shown : List ℕ → List ℕ → Found → List ℕ
shown f store (Refused n) = []
shown f store (InFrame start size idle) = part_of f start size
shown f store (InStore size idle) = part_of store 0 size
shown f store (Damaged d) = []
shown f store Spent = []
