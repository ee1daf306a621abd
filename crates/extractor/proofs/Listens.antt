-- A whole run of calls says what the written rules say, frame by frame.
-- Assumes nothing.
use mathlib.Core.Path.{◌≡◌, refl, ap, ap₂, ◌∙◌}
use mathlib.Core.List.{List, [], ◌∷◌, ◌++◌}
use mathlib.Core.Bool.{true, false}
use Prim.Native.Nat.{ℕ, suc, ◌≤◌}
use native.Mathlib.Omega.{arith}
use lib.ListN.{length}
use lib.Dec.{eqb}
use borrow.Author.Tests.{le-ltb, eqb-true}
use Rattle.octets.specs.Basics.{pick, first}
use Rattle.octets.proofs.Tests.{test}
use Rattle.frames.specs.Frame.{in_range, frame_rows}
use Rattle.frames.specs.declared.Settings.{Settings}
use Rattle.extractor.specs.Extract.{State, fresh, Event, Said, take_in, Told, refused, taken, told, events_in, heard}
use Rattle.extractor.specs.Records.{reachable, is_entered, stands_for, enter_rows, enter}
use Rattle.extractor.specs.Answers.{said_numbers, enter_answer}
use Rattle.extractor.specs.Calls.{Finds, steps, all_said, Listened, listen}
use Rattle.extractor.specs.declared.Extractor.{Extractor}
use Rattle.extractor.specs.declared.Extractor.TheVariants.{Fresh}
use Rattle.extractor.proofs.Settles.{Keeps, Settles, steps_are_events}

-- of a reachable record between frames, only what is wrong with the frame is refused
pub entering_refusal : (s : Settings) (x : Extractor) (store f : List ℕ) → in_range s ≡ true → s.limit ≤ length store
    → reachable s store x ≡ true → is_entered x ≡ false → first (enter_rows s x store f) ≡ first (frame_rows s f)
unfolding enter_rows first
entering_refusal s x store f ok room reach between = rw (ok, le-ltb (length store) s.limit room, reach, between)

-- what entering and the steps of a frame say together is what the rules say of it
all_is_said : (s : Settings) (store : List ℕ) (t : Said) (w : Finds) → Settles s store t.events t.state w → all_said (said_numbers t) w ≡ t
all_is_said s store t w r =
    ap₂
    (λ (es : List Event) (st : State). record {
      count = t.count;
      replay = t.replay;
      lost = t.lost;
      dropped = t.dropped;
      reason = t.reason;
      damage = t.damage;
      events = es;
      state = st;
    })
    r.says r.leaves

-- a run that says this and keeps to the records that can be reached
pub record Hears (s : Settings) (store : List ℕ) (ts : List Told) (l : Listened) : Type 0 where
  pub says : l.told ≡ ts
  pub keeps : Keeps s store false l.next l.store

pub listen_hears : (s : Settings) (x : Extractor) (store : List ℕ) (fs : List (List ℕ)) → in_range s ≡ true → s.limit ≤ length store
    → reachable s store x ≡ true → is_entered x ≡ false → Hears s store (told s (stands_for store x) fs) (listen s x store fs)
unfolding listen told enter_answer
listen_hears s x store [] ok room reach between =
    record { says = refl; keeps = record { reach = reach; stage = between; same_room = refl; beyond = refl } }
listen_hears s x store (f ∷ fs) ok room reach between =
    rw (entering_refusal s x store f ok room reach between)
    (test (eqb (first (frame_rows s f)) 0)
    (λ t.
    let said : Said = take_in s (stands_for store x) f in
    let w : Finds = steps s f (suc s.zone) (enter s (stands_for store x) f) store in
    let r = steps_are_events s f store x ok (eqb-true (first (frame_rows s f)) 0 t) room reach between in
    let k = r.keeps in
    let l = listen_hears s w.next w.store fs ok (omega (arith, k.same_room)) k.reach k.stage in
    rw t (record {
      says =
          ap₂ (λ (a : Said) (b : List Told). taken a ∷ b) (all_is_said s store said w r)
          (l.says ∙ ap (λ (y : State). told s y fs) r.leaves);
      keeps = record {
        reach = l.keeps.reach;
        stage = l.keeps.stage;
        same_room = l.keeps.same_room ∙ k.same_room;
        beyond = l.keeps.beyond ∙ k.beyond;
      };
    }))
    (λ t.
    let l = listen_hears s x store fs ok room reach between in
    rw (t, t) (record {
      says = ap (λ (b : List Told). refused (first (frame_rows s f)) ∷ b) l.says;
      keeps = l.keeps;
    })))

-- from nothing, over any store that is long enough
pub fresh_hears : (s : Settings) (store : List ℕ) (fs : List (List ℕ)) → in_range s ≡ true → s.limit ≤ length store
    → Hears s store (told s fresh fs) (listen s Fresh store fs)
unfolding reachable is_entered stands_for
fresh_hears s store fs ok room = listen_hears s Fresh store fs ok room refl refl

-- what is heard of a run, frame by frame
pub heard_first : (s : Settings) (x : State) (f : List ℕ) (fs : List (List ℕ)) → heard s x (f ∷ fs)
    ≡ pick (eqb (first (frame_rows s f)) 0) ((take_in s x f).events ++ heard s (take_in s x f).state fs) (heard s x fs)
unfolding heard told
heard_first s x f fs = test (eqb (first (frame_rows s f)) 0) (λ t. rw t refl) (λ t. rw t refl)

-- a run of calls hears it, with every store that is long enough
pub listen_heard : (s : Settings) (store : List ℕ) (fs : List (List ℕ)) → in_range s ≡ true → s.limit ≤ length store
    → events_in (listen s Fresh store fs).told ≡ heard s fresh fs
unfolding heard
listen_heard s store fs ok room = ap events_in (fresh_hears s store fs ok room).says
