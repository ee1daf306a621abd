-- A frame that is entered and stepped until it is spent: the calls say what the written rules say of it, keep to the records
-- that these can reach, and spend it in time.
-- Assumes nothing.
use mathlib.Core.Path.{◌≡◌, refl, ap, ◌∙◌}
use mathlib.Core.List.{List, [], ◌∷◌, ◌++◌}
use mathlib.Core.Option.{some}
use mathlib.Core.Bool.{Bool, true, false}
use Prim.Native.Nat.{ℕ, zero, suc, ◌-◌, ◌^◌, ◌≤◌, ◌<◌}
use native.Mathlib.Omega.{arith}
use lib.ListN.{length, take, drop, length-drop}
use lib.Seq.{take-append_seam}
use borrow.Author.Tests.{le-ltb, lt-ltb, eq-eqb}
use Rattle.octets.specs.Basics.{pick, first}
use Rattle.octets.proofs.Choices.{apart, and_true}
use Rattle.octets.proofs.Fronts.{length-front-over, drop-front-over}
use Rattle.octets.proofs.Tests.{and_both}
use Rattle.packets.specs.Packet.{is_idle}
use Rattle.packets.proofs.Begun.{damaged_some}
use Rattle.packets.proofs.Grown.{look_bounds}
use Rattle.frames.specs.Frame.{in_range, frame_length, frame_rows, count}
use Rattle.frames.specs.Link.{primary, count_width}
use Rattle.frames.specs.declared.Settings.{Settings}
use Rattle.frames.proofs.Accepted.{accepted}
use Rattle.frames.proofs.Settled.{settled}
use Rattle.frames.proofs.Wheel.{count_lt}
use Rattle.extractor.specs.Extract.{State, astray, Event, torn, as_event, event_of, Walked, after, ends, walk_turns, walk, take_in}
use Rattle.extractor.specs.Records.{on_wheel, reachable, is_entered, stands_for, enter, Stepped, steps_to, step_rows, step, step_call, shown}
use Rattle.extractor.specs.Calls.{event_at, Finds, one_more, none_left, goes_on, steps, through, SpentLast}
use Rattle.extractor.specs.declared.Extractor.{Extractor}
use Rattle.extractor.specs.declared.Extractor.TheVariants.{Fresh, Astray, InStep, Walking, Leaving}
use Rattle.extractor.specs.Found.{Found, Damaged}
use Rattle.extractor.proofs.Entries.{Arrival, nothing, onward, arrival}
use Rattle.extractor.proofs.Places.{Begun, Place, in_zone, place, walking_reachable, holds_some, ahead}
use Rattle.extractor.proofs.Turns.{Packed, framed, stored, Turn, leave, keep, break, give, turn, walking_turn}
use Rattle.extractor.proofs.Walked.{walk_begun, walk_torn, walk_packet}

-- ---- what a call leaves

-- of a record and a store that were reachable: a reachable record, entered or not, over a store of the same length that is
-- written below the limit alone
pub record Keeps (s : Settings) (store : List ℕ) (entered : Bool) (next : Extractor) (st : List ℕ) : Type 0 where
  pub reach : reachable s st next ≡ true
  pub stage : is_entered next ≡ entered
  pub same_room : length st ≡ length store
  pub beyond : drop s.limit st ≡ drop s.limit store

wheel_of : (s : Settings) (store : List ℕ) (last h at : ℕ) → reachable s store (Walking last h at) ≡ true → on_wheel s last ≡ true
unfolding reachable
wheel_of s store last h at reach = (and_true (on_wheel s last) _ reach).0

kept_reachable : (s : Settings) (os store : List ℕ) (last : ℕ) → on_wheel s last ≡ true → s.limit ≤ length store
    → Begun s.limit os → length os ≤ s.limit → reachable s (os ++ drop (length os) store) (InStep last (length os)) ≡ true
unfolding reachable
kept_reachable s os store last wheel room begun fits =
    let st : List ℕ = os ++ drop (length os) store in
    let same : length st ≡ length store = length-front-over os store (omega arith) in
    let front : take (length os) st ≡ os = take-append_seam os (drop (length os) store) in
    and_both wheel (holds_some s st (length os) (omega arith) (rw front begun))

kept_keeps : (s : Settings) (os store : List ℕ) (last : ℕ) → on_wheel s last ≡ true → s.limit ≤ length store
    → Begun s.limit os → length os ≤ s.limit → Keeps s store false (InStep last (length os)) (os ++ drop (length os) store)
unfolding is_entered
kept_keeps s os store last wheel room begun fits = record {
  reach = kept_reachable s os store last wheel room begun fits;
  stage = refl;
  same_room = length-front-over os store (omega arith);
  beyond = drop-front-over os store s.limit fits;
}

pub packed_goes_on : {a : Found} {mark : Bool} → Packed a mark → goes_on a ≡ true
packed_goes_on framed = refl
packed_goes_on stored = refl

turn_keeps : (s : Settings) (f store : List ℕ) {x : Extractor} {w : Stepped} → s.limit ≤ length store
    → reachable s store x ≡ true → Turn s f store x w → Keeps s store (goes_on w.found) w.next w.store
unfolding is_entered reachable
turn_keeps s f store room reach leave = record { reach = reach; stage = refl; same_room = refl; beyond = refl }
turn_keeps s f store room reach (keep {last} {h} {at} begun fits) =
    kept_keeps s (ahead s f store h at) store last (wheel_of s store last h at reach) room begun fits
turn_keeps s f store room reach (break {last} {h} {at} e before) =
    record { reach = wheel_of s store last h at reach; stage = refl; same_room = refl; beyond = refl }
turn_keeps s f store room reach (give {last} {h} {at} {next} {l} {a} {st} packed e fits seen rest low high same far) =
    record {
      reach = walking_reachable s st last (wheel_of s store last h at reach) (in_zone high);
      stage = rw (packed_goes_on packed) refl;
      same_room = same;
      beyond = far;
    }

-- a step from a reachable, entered record, whatever frame of the right length it is lent
pub step_keeps : (s : Settings) (f store : List ℕ) (x : Extractor) → in_range s ≡ true → length f ≡ frame_length s
    → s.limit ≤ length store → reachable s store x ≡ true → is_entered x ≡ true
    → Keeps s store (goes_on (step s f store x).found) (step s f store x).next (step s f store x).store
step_keeps s f store x ok right room reach entered = turn_keeps s f store room reach (turn s f store ok right room x reach entered)

-- no such step is refused
pub step_unrefused : (s : Settings) (x : Extractor) (store f : List ℕ) → in_range s ≡ true → s.limit ≤ length store
    → reachable s store x ≡ true → is_entered x ≡ true → length f ≡ frame_length s → first (step_rows s x store f) ≡ 0
unfolding step_rows first
step_unrefused s x store f ok room reach entered right =
    rw (ok, le-ltb (length store) s.limit room, reach, entered, eq-eqb (length f) (frame_length s) right)

pub call_is_step : (s : Settings) (x : Extractor) (store f : List ℕ) → in_range s ≡ true → s.limit ≤ length store
    → reachable s store x ≡ true → is_entered x ≡ true → length f ≡ frame_length s → step_call s x store f ≡ step s f store x
unfolding step_call
call_is_step s x store f ok room reach entered right = rw (step_unrefused s x store f ok room reach entered right) refl

-- ---- the steps of a frame until it is spent

-- they say these events and leave this state
pub record Settles (s : Settings) (store : List ℕ) (es : List Event) (left : State) (t : Finds) : Type 0 where
  pub says : t.events ≡ es
  pub leaves : stands_for t.store t.next ≡ left
  pub keeps : Keeps s store false t.next t.store
  pub closes : SpentLast t.found

-- the same of what a walk says and leaves
abbrev SettlesAs : Settings → List ℕ → ℕ → Walked → Finds → Type 0
SettlesAs s store last w t = Settles s store w.events (record { last = some last; step = w.leaves }) t

-- a step, and those after it if it goes on
abbrev then_steps : Settings → List ℕ → ℕ → Stepped → Finds
then_steps s f n w = one_more f w (pick (goes_on w.found) (steps s f n w.next w.store) (none_left w.next w.store))

-- a step that goes on, before steps that settle
settles_after : (s : Settings) (f store st : List ℕ) (n last : ℕ) (a : Found) (x : Extractor) (e : Event) (w : Walked)
    → goes_on a ≡ true → event_at a (shown f st a) ≡ e ∷ [] → length st ≡ length store → drop s.limit st ≡ drop s.limit store
    → SettlesAs s st last w (steps s f n x st) → SettlesAs s store last (after e w) (then_steps s f n (steps_to a x st))
settles_after s f store st n last a x e w on event same far r =
    let (before, ends_so, none_before) = r.closes in
    rw on (record {
      says = rw event (ap (λ es. e ∷ es) r.says);
      leaves = r.leaves;
      keeps = record {
        reach = r.keeps.reach;
        stage = r.keeps.stage;
        same_room = r.keeps.same_room ∙ same;
        beyond = r.keeps.beyond ∙ far;
      };
      closes = (a ∷ before, ap (λ found. a ∷ found) ends_so, (on, none_before));
    })

packed_event : {a : Found} {mark : Bool} (p : List ℕ) → Packed a mark → event_at a p ≡ as_event mark p ∷ []
unfolding event_at
packed_event p framed = refl
packed_event p stored = refl

module _ (s : Settings) (f : List ℕ) (ok : in_range s ≡ true) (right : length f ≡ frame_length s) where
  leaving_settles : (store : List ℕ) (n last : ℕ) → s.limit ≤ length store → on_wheel s last ≡ true
      → SettlesAs s store last (ends [] astray) (steps s f (suc n) (Leaving last) store)
  unfolding steps step event_at stands_for reachable is_entered
  leaving_settles store n last room wheel =
      rw (call_is_step s (Leaving last) store f ok room wheel refl right)
      (record {
        says = refl;
        leaves = refl;
        keeps = record { reach = wheel; stage = refl; same_room = refl; beyond = refl };
        closes = ([], refl, tt);
      })

  -- what n steps from the zone's octet `at` on come to
  abbrev Spends : ℕ → Type 0
  Spends n = (k : ℕ) (store : List ℕ) (last h at : ℕ) → s.limit ≤ length store → on_wheel s last ≡ true → Place s store h at
      → s.zone - at < n → length (ahead s f store h at) ≤ k
      → SettlesAs s store last (walk_turns k s.limit (ahead s f store h at)) (steps s f n (Walking last h at) store)

  turn_settles : (n k : ℕ) (store : List ℕ) (last h at : ℕ) {w : Stepped} → s.limit ≤ length store → on_wheel s last ≡ true
      → s.zone - at < suc n → length (ahead s f store h at) ≤ k → Spends n → Turn s f store (Walking last h at) w
      → SettlesAs s store last (walk_turns k s.limit (ahead s f store h at)) (then_steps s f n w)
  unfolding stands_for event_at
  turn_settles n k store last h at room wheel time turns again (keep begun fits) =
      let os : List ℕ = ahead s f store h at in
      rw (walk_begun k s.limit os begun)
      (record {
        says = refl;
        leaves = rw (take-append_seam os (drop (length os) store)) refl;
        keeps = kept_keeps s os store last wheel room begun fits;
        closes = ([], refl, tt);
      })
  turn_settles n zero store last h at room wheel time turns again (break e before) =
      absurd (omega (arith, damaged_some s.limit (ahead s f store h at) e))
  turn_settles zero (suc k) store last h at room wheel time turns again (break e before) = absurd (omega arith)
  turn_settles (suc n) (suc k) store last h at room wheel time turns again (break {d = d} e before) =
      rw (walk_torn k s.limit (ahead s f store h at) e)
      (settles_after s f store store (suc n) last (Damaged d) (Leaving last) (torn d) (ends [] astray)
      refl refl refl refl (leaving_settles store n last room wheel))
  turn_settles n zero store last h at room wheel time turns again (give {l = l} packed e fits seen rest low high same far) =
      absurd (omega (arith, look_bounds s.limit (ahead s f store h at) {l = l} (omega (arith, settled s ok)) e))
  turn_settles n (suc k) store last h at room wheel time turns again
      (give {next = next} {l = l} {a = a} {st = st} packed e fits seen rest low high same far) =
      let os : List ℕ = ahead s f store h at in
      let some_octets = look_bounds s.limit os {l = l} (omega (arith, settled s ok)) e in
      let shorter : length (drop l os) ≤ k = simp length-drop (omega arith) in
      rw (walk_packet k s.limit os l e fits)
      (settles_after s f store st n last a (Walking last 0 next) (event_of (take l os)) (walk_turns k s.limit (drop l os))
      (packed_goes_on packed) (packed_event (shown f st a) packed ∙ ap (λ p. as_event (is_idle (take l os)) p ∷ []) seen)
      same far
      (rw (← rest) (again k st last 0 next (omega arith) wheel (in_zone high) (omega arith) (rw rest shorter))))

  one_spends : (n : ℕ) → Spends n → Spends (suc n)
  unfolding steps is_entered
  one_spends n again k store last h at room wheel p time turns =
      rw (call_is_step s (Walking last h at) store f ok room (walking_reachable s store last wheel p) refl right)
      (turn_settles n k store last h at room wheel time turns again (walking_turn s f store ok right room last p))

  spends : (n : ℕ) → Spends n
  spends zero = λ k store last h at room wheel p time turns. absurd (omega arith)
  spends (suc n) = one_spends n (spends n)

-- ---- a frame entered

pub count_on_wheel : (s : Settings) (f : List ℕ) → on_wheel s (count s f) ≡ true
count_on_wheel s f = lt-ltb (count s f) (2 ^ count_width s.link) (count_lt s.link (primary s.link f))

arrival_reachable : (s : Settings) (f store : List ℕ) {w : Walked} {x : Extractor} → Arrival s f store w x
    → (reachable s store x ≡ true) × (is_entered x ≡ true)
unfolding reachable is_entered
arrival_reachable s f store nothing = (count_on_wheel s f, refl)
arrival_reachable s f store (onward p undamaged) = (walking_reachable s store (count s f) (count_on_wheel s f) p, refl)

-- a frame that is not refused leads from a reachable record between frames to a reachable record that has entered it
pub enter_reachable : (s : Settings) (f store : List ℕ) (x : Extractor) → in_range s ≡ true → first (frame_rows s f) ≡ 0
    → reachable s store x ≡ true → is_entered x ≡ false
    → (reachable s store (enter s (stands_for store x) f) ≡ true) × (is_entered (enter s (stands_for store x) f) ≡ true)
enter_reachable s f store x ok e reach between = arrival_reachable s f store (arrival s f store x ok e reach between)

-- the steps of a frame, from a record that stands where the comparison put it
arrival_settles : (s : Settings) (f store : List ℕ) {w : Walked} {x : Extractor} → in_range s ≡ true → length f ≡ frame_length s
    → s.limit ≤ length store → Arrival s f store w x → SettlesAs s store (count s f) w (steps s f (suc s.zone) x store)
unfolding walk
arrival_settles s f store ok right room nothing = leaving_settles s f ok right store s.zone (count s f) room (count_on_wheel s f)
arrival_settles s f store ok right room (onward {h} {at} p undamaged) =
    spends s f ok right (suc s.zone) (length (ahead s f store h at)) store (count s f) h at room (count_on_wheel s f) p (omega arith) (omega arith)

settled_so : {s : Settings} {store : List ℕ} {es : List Event} {left : State} {t : Finds} → Settles s store es left t
    → Keeps s store false t.next t.store × SpentLast t.found
settled_so r = (r.keeps, r.closes)

-- a frame is spent within a step for each octet of the zone, and one more, of any frame of the right length
pub spent_in_time : (s : Settings) (f store : List ℕ) (x : Extractor) → in_range s ≡ true → length f ≡ frame_length s
    → s.limit ≤ length store → reachable s store x ≡ true → is_entered x ≡ true
    → let t : Finds = through s f x store in
    Keeps s store false t.next t.store × SpentLast t.found
unfolding is_entered reachable
spent_in_time s f store Fresh ok right room reach entered = apart (cc)
spent_in_time s f store (Astray last) ok right room reach entered = apart (cc)
spent_in_time s f store (InStep last h) ok right room reach entered = apart (cc)
spent_in_time s f store (Walking last h at) ok right room reach entered =
    settled_so (spends s f ok right (suc s.zone) (length (ahead s f store h at)) store last h at room (wheel_of s store last h at reach)
    (place s store last h at reach) (omega arith) (omega arith))
spent_in_time s f store (Leaving last) ok right room reach entered = settled_so (leaving_settles s f ok right store s.zone last room reach)

-- the steps of a frame say what the written rules say of it, and leave what they leave
pub steps_are_events : (s : Settings) (f store : List ℕ) (x : Extractor) → in_range s ≡ true → first (frame_rows s f) ≡ 0
    → s.limit ≤ length store → reachable s store x ≡ true → is_entered x ≡ false
    → Settles s store (take_in s (stands_for store x) f).events (take_in s (stands_for store x) f).state
    (steps s f (suc s.zone) (enter s (stands_for store x) f) store)
unfolding take_in
steps_are_events s f store x ok e room reach between =
    arrival_settles s f store ok (accepted s f e).right-length room (arrival s f store x ok e reach between)
