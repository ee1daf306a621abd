-- What a call has that no row refuses.
-- Assumes nothing.
use mathlib.Core.Path.{◌≡◌, refl, subst}
use mathlib.Core.List.{List, []}
use mathlib.Core.Bool.{true}
use Prim.Native.Nat.{ℕ, ◌+◌, ◌≤◌, ◌<◌}
use native.Mathlib.Omega.{arith}
use lib.ListN.{length}
use borrow.Author.Tests.{ltb-false, le-ltb, not-false}
use Rattle.octets.specs.Basics.{first, Row}
use Rattle.octets.proofs.Choices.{and_true, none_holds}
use Rattle.octets.proofs.Tests.{and_both}
use Rattle.frames.specs.Frame.{in_range, most_frames}
use Rattle.frames.specs.declared.Settings.{Settings}
use Rattle.extractor.specs.Records.{reachable}
use Rattle.extractor.specs.declared.Extractor.TheVariants.{InStep}
use Rattle.extractor.proofs.Places.{holds_none}
use Rattle.judge.specs.Calls.{tally_of, judge_reachable, checked, frame_refusals, close_rows}
use Rattle.judge.specs.Trials.{Tries}
use Rattle.judge.specs.declared.Judge.{Judge}
use Rattle.judge.specs.declared.Judge.TheVariants.{Open, Sound}
use Rattle.judge.proofs.Opening.{ready, ready_on_wheel}

pub record Checks (s : Settings) (store : List ℕ) (j : Judge) : Type 0 where
  pub ranged : in_range s ≡ true
  pub room : s.limit ≤ length store
  pub reached : judge_reachable s store j ≡ true

-- and the rows below these refuse no more
pub checks : (s : Settings) (store : List ℕ) (j : Judge) (below : List Row) → first (checked s store j below) ≡ 0
    → Checks s store j × (first below ≡ 0)
checks s store j below e =
    let a = none_holds 0 _ _ e in
    let b = none_holds 1 _ _ a.1 in
    let c = none_holds 9 _ _ b.1 in
    (record { ranged = not-false _ a.0; room = ltb-false _ _ b.0; reached = not-false _ c.0 }, c.1)

pub checked_close : (s : Settings) (store : List ℕ) (j : Judge) → first (close_rows s store j) ≡ 0 → Checks s store j
unfolding close_rows
checked_close s store j e = (checks s store j [] e).0

pub checks_none : {s : Settings} {store : List ℕ} {j : Judge} (below : List Row) → Checks s store j → first (checked s store j below) ≡ first below
unfolding first
checks_none {s} {store} {j} below c = rw (c.ranged, le-ltb (length store) s.limit c.room, c.reached)

-- a frame
pub record Accepts (s : Settings) (store : List ℕ) (j : Judge) : Type 0 where
  pub found : Checks s store j
  pub few : tally_of j < most_frames

pub accepts : (s : Settings) (store : List ℕ) (j : Judge) → first (frame_refusals s store j) ≡ 0 → Accepts s store j
unfolding frame_refusals
accepts s store j e =
    let (c, own) = checks s store j _ e in
    record { found = c; few = omega (arith, ltb-false most_frames (tally_of j + 1) (none_holds 10 _ _ own).0) }

pub sound_tries : {s : Settings} {store : List ℕ} {tally last held : ℕ} → Accepts s store (Sound tally last held)
    → Tries s tally (InStep last held) store
unfolding judge_reachable
sound_tries {s} {store} {tally} {last} {held} a = record {
  ranged = a.found.ranged;
  room = a.found.room;
  few = a.few;
  last = last;
  held = held;
  between = refl;
  reached = (and_true (reachable s store (InStep last held)) _ a.found.reached).0;
}

pub open_tries : {s : Settings} {store : List ℕ} (c : ℕ) → Accepts s store Open → Tries s 0 (ready s c) store
unfolding reachable
open_tries {s} {store} c a = record {
  ranged = a.found.ranged;
  room = a.found.room;
  few = a.few;
  last = _;
  held = 0;
  between = refl;
  reached = and_both (ready_on_wheel s c) (holds_none s store);
}

-- the same of a record that is told by its case
pub accepts_as : {s : Settings} {store : List ℕ} {j k : Judge} → first (frame_refusals s store j) ≡ 0 → j ≡ k → Accepts s store k
accepts_as {s} {store} {j} none e = subst (λ (j : Judge). Accepts s store j) e (accepts s store j none)
