-- Entering a frame: the steps that the comparison can leave, where the record then stands, and what there is to walk.
-- Assumes nothing.
use mathlib.Core.Path.{◌≡◌, subst}
use mathlib.Core.List.{List, [], ◌∷◌, ◌++◌}
use mathlib.Core.Bool.{true, false}
use Prim.Native.Nat.{ℕ, zero, suc, ◌-◌, ◌≤◌}
use native.Mathlib.Omega.{arith}
use lib.ListN.{length, take, drop, drop_of_length-le}
use lib.Seq.{length-take-le}
use lib.Dec.{ltb, eqb}
use borrow.Author.Tests.{ltb-true, eqb-true, ne_eqb, eq-eqb}
use Rattle.octets.specs.Basics.{first}
use Rattle.octets.proofs.Choices.{apart, and_true}
use Rattle.octets.proofs.Tests.{test}
use Rattle.packets.specs.Packet.{Look, more, damaged, whole, look, Undamaged}
use Rattle.frames.specs.Frame.{idle_zone, no_start, in_range, frame_length, frame_rows, zone_of, pointer, count}
use Rattle.frames.specs.declared.Settings.{Settings}
use Rattle.frames.proofs.Accepted.{length_zone, Pointed, offset, idles, starts_none, accepted}
use Rattle.frames.proofs.Settled.{settled}
use Rattle.extractor.specs.Extract.{State, Step, astray, in_step, Walked, ends, walk_turns, walk, agreed_look, agreed, reason_by, reason_in, lost_since, walked, reason_of, step_of}
use Rattle.extractor.specs.Records.{holds_well, on_wheel, reachable, is_entered, stands_for, step_in, set_off, set_out, enter}
use Rattle.extractor.specs.declared.Extractor.{Extractor}
use Rattle.extractor.specs.declared.Extractor.TheVariants.{Fresh, Astray, InStep, Walking, Leaving}
use Rattle.extractor.proofs.Places.{BegunIn, Place, in_zone, in_packet, holds_packet, ahead}

-- a packet that is held agrees with no zone of idle data
held_not_idle : (s : Settings) (held f : List ℕ) → s.zone ≤ 2046 → 1 ≤ length held → reason_in s (in_step held) f ≡ 0
    → pointer s f ≡ idle_zone → ⊥
unfolding reason_in reason_by agreed agreed_look
held_not_idle s [] f small some-held e p = omega arith
held_not_idle s (o ∷ os) f small some-held e p = go (look s.limit ((o ∷ os) ++ zone_of s f)) (rw p at e)
  where
    go : (r : Look) → reason_by idle_zone (agreed_look s (o ∷ os) r) ≡ 0 → ⊥
    go more z = omega arith
    go (damaged d) z = omega arith
    go (whole l) z =
        test (ltb (l - length (o ∷ os)) s.zone)
        (λ t.
        let other : eqb idle_zone (l - length (o ∷ os)) ≡ false =
        ne_eqb idle_zone (l - length (o ∷ os)) (omega (arith, ltb-true (l - length (o ∷ os)) s.zone t)) in
        let z' : ◌≡◌ {A = ℕ} 2 0 = rw (t, other) at z in omega arith)
        (λ t. let z' : ◌≡◌ {A = ℕ} 2 0 = rw t at z in omega arith)

-- nor with a zone that damages its header
held_not_damaged : (s : Settings) (held f : List ℕ) → 1 ≤ length held → reason_in s (in_step held) f ≡ 0
    → Undamaged (look s.limit (held ++ zone_of s f))
unfolding reason_in reason_by agreed agreed_look
held_not_damaged s [] f some-held e d torn = omega arith
held_not_damaged s (o ∷ os) f some-held e d torn = let z : ◌≡◌ {A = ℕ} 3 0 = rw torn at e in omega arith

-- the steps that the comparison can leave, of a record between frames
pub data Compared (s : Settings) (f store : List ℕ) : Step → Type 0 where
  lost : Compared s f store astray
  empty : Compared s f store (in_step [])
  begun : {h : ℕ} → 1 ≤ h → h ≤ length store → BegunIn s store h
      → (pointer s f ≡ idle_zone → ⊥) → Undamaged (look s.limit (take h store ++ zone_of s f))
      → Compared s f store (in_step (take h store))

compared_held : (s : Settings) (f store : List ℕ) (h : ℕ) → in_range s ≡ true → holds_well s store h ≡ true
    → reason_in s (in_step (take h store)) f ≡ 0 → Compared s f store (in_step (take h store))
compared_held s f store zero ok well e = empty
compared_held s f store (suc h) ok well e =
    let (room, unfinished-yet) = holds_packet s store h well in
    let held : length (take (suc h) store) ≡ suc h = length-take-le (suc h) store room in
    begun {h = suc h} (omega arith) room unfinished-yet
    (held_not_idle s (take (suc h) store) f (omega (arith, settled s ok)) (omega arith) e)
    (held_not_damaged s (take (suc h) store) f (omega arith) e)

reason_within : (s : Settings) (x : State) (f : List ℕ) → reason_of s x f ≡ 0 → reason_in s x.step f ≡ 0
unfolding reason_of
reason_within s x f e =
    test (eqb (lost_since s x.last (count s f)) 0) (λ t. rw t at e)
    (λ t. let z : ◌≡◌ {A = ℕ} 1 0 = rw t at e in absurd (omega arith))

step_kept : (s : Settings) (f store : List ℕ) (x : Extractor) → in_range s ≡ true → reachable s store x ≡ true → is_entered x ≡ false
    → reason_in s (step_in store x) f ≡ 0 → Compared s f store (step_in store x)
unfolding reachable is_entered
step_kept s f store Fresh ok reach between e = lost
step_kept s f store (Astray last) ok reach between e = lost
step_kept s f store (InStep last h) ok reach between e = compared_held s f store h ok (and_true (on_wheel s last) _ reach).1 e
step_kept s f store (Walking last h at) ok reach between e = apart (cc)
step_kept s f store (Leaving last) ok reach between e = apart (cc)

pub compared : (s : Settings) (f store : List ℕ) (x : Extractor) → in_range s ≡ true → reachable s store x ≡ true → is_entered x ≡ false
    → Compared s f store (step_of s (stands_for store x) f)
unfolding step_of stands_for
compared s f store x ok reach between =
    let why : ℕ = reason_of s (stands_for store x) f in
    test (eqb why 0)
    (λ t. rw t (step_kept s f store x ok reach between (reason_within s (stands_for store x) f (eqb-true why 0 t))))
    (λ t. rw t lost)

-- where a record stands that has entered the frame, and what there is to walk from there
pub data Arrival (s : Settings) (f store : List ℕ) : Walked → Extractor → Type 0 where
  nothing : Arrival s f store (ends [] astray) (Leaving (count s f))
  onward : {h at : ℕ} → Place s store h at → (1 ≤ h → Undamaged (look s.limit (take h store ++ zone_of s f)))
      → Arrival s f store (walk s.limit (ahead s f store h at)) (Walking (count s f) h at)

module _ (s : Settings) (f store : List ℕ) (ok : in_range s ≡ true) (right : length f ≡ frame_length s) where
  -- an idle zone is walked from its end
  idle_arrival : Arrival s f store (ends [] (in_step [])) (Walking (count s f) 0 s.zone)
  unfolding walk walk_turns
  idle_arrival =
      let z : length (zone_of s f) ≡ s.zone = length_zone s f right in
      let end : drop s.zone (zone_of s f) ≡ [] = drop_of_length-le (zone_of s f) {i = s.zone} (omega arith) in
      subst (λ (os : List ℕ). Arrival s f store (walk s.limit os) (Walking (count s f) 0 s.zone)) end
      (onward (in_zone {at = s.zone} (omega arith)) (λ none. absurd (omega arith)))

  set_out_arrival : {st : Step} → Pointed s f → Compared s f store st
      → Arrival s f store (walked s st f) (set_out s (count s f) (pointer s f) st)
  unfolding walked set_off
  set_out_arrival (offset low) lost =
      let not_idle : eqb (pointer s f) idle_zone ≡ false = ne_eqb (pointer s f) idle_zone (omega (arith, settled s ok)) in
      let not_none : eqb (pointer s f) no_start ≡ false = ne_eqb (pointer s f) no_start (omega (arith, settled s ok)) in
      rw (not_idle, not_none) (onward (in_zone {at = pointer s f} (omega arith)) (λ none. absurd (omega arith)))
  set_out_arrival (idles p) lost = rw (eq-eqb (pointer s f) idle_zone p) idle_arrival
  set_out_arrival (starts_none p) lost =
      let not_idle : eqb (pointer s f) idle_zone ≡ false = ne_eqb (pointer s f) idle_zone (omega arith) in
      rw (not_idle, eq-eqb (pointer s f) no_start p) nothing
  set_out_arrival p empty =
      test (eqb (pointer s f) idle_zone) (λ t. rw t idle_arrival)
      (λ t. rw t (onward (in_zone {at = 0} (omega arith)) (λ none. absurd (omega arith))))
  set_out_arrival p (begun {h} some-held room unfinished-yet not_idle not-damaged) =
      rw (ne_eqb (pointer s f) idle_zone not_idle, length-take-le h store room) (onward (in_packet some-held room unfinished-yet) (λ some-here. not-damaged))

pub arrival : (s : Settings) (f store : List ℕ) (x : Extractor) → in_range s ≡ true → first (frame_rows s f) ≡ 0
    → reachable s store x ≡ true → is_entered x ≡ false
    → Arrival s f store (walked s (step_of s (stands_for store x) f) f) (enter s (stands_for store x) f)
unfolding enter
arrival s f store x ok e reach between =
    set_out_arrival s f store ok (accepted s f e).right-length (accepted s f e).pointed (compared s f store x ok reach between)
