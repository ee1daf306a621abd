-- Where a walking record can stand, and what the test of the octets held says.
-- Assumes nothing.
use mathlib.Core.Path.{◌≡◌, refl}
use mathlib.Core.List.{List, ◌++◌}
use mathlib.Core.Bool.{true}
use Prim.Native.Nat.{ℕ, zero, suc, ◌≤◌}
use native.Mathlib.Omega.{arith}
use lib.ListN.{length, take, drop}
use lib.Dec.{leb, eqb, eqb-suc-zero}
use borrow.Author.Tests.{leb-true, eqb-true, le-leb, ne_eqb}
use Rattle.octets.proofs.Choices.{and_true}
use Rattle.octets.proofs.Tests.{and_both}
use Rattle.packets.specs.Packet.{look}
use Rattle.frames.specs.Frame.{zone_of}
use Rattle.frames.specs.declared.Settings.{Settings}
use Rattle.extractor.specs.Records.{unfinished, holds_well, on_wheel, reachable}
use Rattle.extractor.specs.declared.Extractor.TheVariants.{Walking}

-- octets that begin a packet and do not end it
abbrev pub Begun : ℕ → List ℕ → Type 0
Begun limit os = unfinished (length os) (look limit os) ≡ true

-- the first h octets of a store are such
abbrev pub BegunIn : Settings → List ℕ → ℕ → Type 0
BegunIn s store h = unfinished h (look s.limit (take h store)) ≡ true

-- in the zone with nothing held, or before the zone with a packet begun
pub data Place (s : Settings) (store : List ℕ) : ℕ → ℕ → Type 0 where
  in_zone : {at : ℕ} → at ≤ s.zone → Place s store 0 at
  in_packet : {h : ℕ} → 1 ≤ h → h ≤ length store → BegunIn s store h → Place s store h 0

pub holds_packet : (s : Settings) (store : List ℕ) (h : ℕ) → holds_well s store (suc h) ≡ true
    → (suc h ≤ length store) × BegunIn s store (suc h)
unfolding holds_well
holds_packet s store h e =
    let a = and_true (leb (suc h) (length store)) _ (rw (eqb-suc-zero h) at e) in
    (leb-true _ _ a.0, a.1)

pub holds_none : (s : Settings) (store : List ℕ) → holds_well s store 0 ≡ true
unfolding holds_well
holds_none s store = refl

pub holds_some : (s : Settings) (store : List ℕ) (h : ℕ) → h ≤ length store → BegunIn s store h → holds_well s store h ≡ true
unfolding holds_well
holds_some s store zero room e = refl
holds_some s store (suc h) room e = rw (eqb-suc-zero h) (and_both (le-leb (suc h) (length store) room) e)

pub place : (s : Settings) (store : List ℕ) (last h at : ℕ) → reachable s store (Walking last h at) ≡ true → Place s store h at
unfolding reachable
place s store last zero at e = in_zone (leb-true at s.zone (and_true (on_wheel s last) _ e).1)
place s store last (suc h) at e =
    let a = and_true (eqb at 0) (holds_well s store (suc h)) (rw (eqb-suc-zero h) at (and_true (on_wheel s last) _ e).1) in
    let (room, begun) = holds_packet s store h a.1 in
    rw (eqb-true at 0 a.0) (in_packet {h = suc h} (omega arith) room begun)

pub walking_reachable : (s : Settings) (store : List ℕ) (last : ℕ) {h at : ℕ} → on_wheel s last ≡ true → Place s store h at
    → reachable s store (Walking last h at) ≡ true
unfolding reachable
walking_reachable s store last wheel (in_zone {at} low) = and_both wheel (le-leb at s.zone low)
walking_reachable s store last wheel (in_packet {h} some-held room begun) =
    and_both wheel (rw (ne_eqb h 0 (omega arith)) (holds_some s store h room begun))

pub place_held : {s : Settings} {store : List ℕ} {h at : ℕ} → Place s store h at → h ≤ length store
place_held (in_zone low) = omega arith
place_held (in_packet some-held room begun) = room

pub place_inside : {s : Settings} {store : List ℕ} {h at : ℕ} → Place s store h at → at ≤ s.zone
place_inside (in_zone low) = low
place_inside (in_packet some-held room begun) = omega arith

pub place_before : {s : Settings} {store : List ℕ} {h at : ℕ} → Place s store h at → (h ≡ 0 → ⊥) → at ≡ 0
place_before (in_zone low) some = absurd (some refl)
place_before (in_packet some-held room begun) some = refl

-- what a walking record has before it: the octets held, and the zone from where it stands
abbrev pub ahead : Settings → List ℕ → List ℕ → ℕ → ℕ → List ℕ
ahead s f store h at = take h store ++ drop at (zone_of s f)
