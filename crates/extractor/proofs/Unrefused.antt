-- What a call that no row refuses has.
-- Assumes nothing.
use mathlib.Core.Path.{◌≡◌, subst}
use mathlib.Core.List.{List}
use mathlib.Core.Bool.{true, false}
use Prim.Native.Nat.{ℕ, zero, suc, ◌≤◌}
use native.Mathlib.Omega.{arith}
use lib.ListN.{length}
use borrow.Author.Tests.{eqb-true, ltb-false, not-false}
use Rattle.octets.specs.Basics.{first}
use Rattle.octets.proofs.Choices.{and_true, none_holds, apart}
use Rattle.frames.specs.Frame.{in_range, frame_length, frame_rows}
use Rattle.frames.specs.declared.Settings.{Settings}
use Rattle.frames.proofs.Accepted.{accepted}
use Rattle.extractor.specs.Records.{holds_well, on_wheel, reachable, is_entered, held_in, enter_rows, step_rows}
use Rattle.extractor.specs.Walks.{Walks}
use Rattle.extractor.specs.declared.Extractor.{Extractor}
use Rattle.extractor.specs.declared.Extractor.TheVariants.{Fresh, Astray, InStep, Walking, Leaving}
use Rattle.extractor.proofs.Places.{holds_packet, place, place_held, place_inside, place_before}

-- ---- entering

pub record Arrives (s : Settings) (x : Extractor) (store f : List ℕ) : Type 0 where
  pub ranged : in_range s ≡ true
  pub room : s.limit ≤ length store
  pub reached : reachable s store x ≡ true
  pub between : is_entered x ≡ false
  pub accepts : first (frame_rows s f) ≡ 0

pub arrives : (s : Settings) (x : Extractor) (store f : List ℕ) → first (enter_rows s x store f) ≡ 0 → Arrives s x store f
unfolding enter_rows
arrives s x store f e =
    let a = none_holds 0 _ _ e in
    let b = none_holds 1 _ _ a.1 in
    let c = none_holds 9 _ _ b.1 in
    let d = none_holds 8 _ _ c.1 in
    record {
      ranged = not-false _ a.0;
      room = ltb-false _ _ b.0;
      reached = not-false _ c.0;
      between = d.0;
      accepts = d.1;
    }

holds_fits : (s : Settings) (store : List ℕ) (h : ℕ) → holds_well s store h ≡ true → h ≤ length store
holds_fits s store zero e = omega arith
holds_fits s store (suc h) e = (holds_packet s store h e).0

pub held_fits : (s : Settings) (store : List ℕ) (x : Extractor) → reachable s store x ≡ true → is_entered x ≡ false → held_in x ≤ length store
unfolding reachable is_entered
held_fits s store Fresh reached between = omega arith
held_fits s store (Astray last) reached between = omega arith
held_fits s store (InStep last h) reached between = holds_fits s store h (and_true (on_wheel s last) (holds_well s store h) reached).1
held_fits s store (Walking last h at) reached between = apart (cc)
held_fits s store (Leaving last) reached between = apart (cc)

pub arriving_walks : {s : Settings} {x : Extractor} {store f : List ℕ} → Arrives s x store f → Walks s (held_in x) 0 store f
arriving_walks {s} {x} {store} {f} a = record {
  ranged = a.ranged;
  room = a.room;
  inside = omega arith;
  holds = held_fits s store x a.reached a.between;
  framed = (accepted s f a.accepts).right-length;
}

-- ---- a step

pub record Moves (s : Settings) (x : Extractor) (store f : List ℕ) : Type 0 where
  pub ranged : in_range s ≡ true
  pub room : s.limit ≤ length store
  pub reached : reachable s store x ≡ true
  pub underway : is_entered x ≡ true
  pub framed : length f ≡ frame_length s

pub moves : (s : Settings) (x : Extractor) (store f : List ℕ) → first (step_rows s x store f) ≡ 0 → Moves s x store f
unfolding step_rows
moves s x store f e =
    let a = none_holds 0 _ _ e in
    let b = none_holds 1 _ _ a.1 in
    let c = none_holds 9 _ _ b.1 in
    let d = none_holds 8 _ _ c.1 in
    let g = none_holds 2 _ _ d.1 in
    record {
      ranged = not-false _ a.0;
      room = ltb-false _ _ b.0;
      reached = not-false _ c.0;
      underway = not-false _ d.0;
      framed = eqb-true (length f) (frame_length s) (not-false _ g.0);
    }

pub walks : (s : Settings) (last h at : ℕ) (store f : List ℕ) → first (step_rows s (Walking last h at) store f) ≡ 0 → Walks s h at store f
walks s last h at store f e =
    let m = moves s (Walking last h at) store f e in
    let p = place s store last h at m.reached in
    record { ranged = m.ranged; room = m.room; inside = place_inside p; holds = place_held p; framed = m.framed }

-- octets are held before the zone alone
pub walks_held : (s : Settings) (last h at : ℕ) (store f : List ℕ) → first (step_rows s (Walking last h at) store f) ≡ 0 → (h ≡ 0 → ⊥)
    → (at ≡ 0) × Walks s h 0 store f
walks_held s last h at store f e some =
    let m = moves s (Walking last h at) store f e in
    let low = place_before (place s store last h at m.reached) some in
    (low, subst (λ (n : ℕ). Walks s h n store f) low (walks s last h at store f e))
