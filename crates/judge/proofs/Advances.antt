-- A frame that is not refused leads to a record that the rules can reach, and not to another verdict.
-- Assumes nothing.
use mathlib.Core.Path.{◌≡◌, refl, sym, ap, ◌∙◌}
use mathlib.Core.List.{List, ◌∷◌, ◌++◌}
use mathlib.Core.Option.{Option, some}
use mathlib.Core.Bool.{true, false}
use Prim.Native.Nat.{ℕ, ◌+◌, ◌*◌, ◌≤◌, ◌<◌}
use native.Mathlib.Nat.{le_refl, add-mul}
use native.Mathlib.Omega.{arith}
use lib.ListN.{length, take, drop, length-append, length-take}
use lib.Seq.{length-take-le}
use lib.Dec.{leb, ltb, eqb}
use borrow.Author.Tests.{leb-true, le-leb, ltb-true, lt-ltb, eqb-true, eqb-false}
use Rattle.octets.proofs.Choices.{and_true}
use Rattle.octets.proofs.Tests.{test, and_both}
use Rattle.packets.specs.Packet.{end_to_end}
use Rattle.frames.specs.Frame.{idle_zone, in_range, zone_of, pointer, count, most_frames}
use Rattle.frames.specs.declared.Settings.{Settings}
use Rattle.frames.proofs.Accepted.{length_zone, accepted}
use Rattle.frames.proofs.Settled.{settled}
use Rattle.extractor.specs.Extract.{State, in_step, any_torn, walk, walked, take_in}
use Rattle.extractor.specs.Records.{reachable, is_entered, held_in, stands_for, enter}
use Rattle.extractor.specs.Calls.{Finds, through}
use Rattle.extractor.specs.declared.Extractor.{Extractor}
use Rattle.extractor.specs.declared.Extractor.TheVariants.{InStep}
use Rattle.extractor.proofs.Settles.{Settles, steps_are_events}
use Rattle.extractor.proofs.Unrefused.{held_fits}
use Rattle.extractor.proofs.Walked.{Clean, walk_clean}
use Rattle.judge.specs.Judge.{opened, Verdict, fault, faulty_entry, faulty, judged}
use Rattle.judge.specs.Calls.{tally_of, counts_well, judge_reachable, Judging, judging, faults_at, stepped_through, try_frame, judge_frame}
use Rattle.judge.specs.Trials.{Tries}
use Rattle.judge.specs.declared.Judge.{Judge}
use Rattle.judge.specs.declared.Judge.TheVariants.{Open, Sound, Faulty}
use Rattle.judge.proofs.Accepting.{Accepts, sound_tries, open_tries}
use Rattle.judge.proofs.Endings.{between_in_step}
use Rattle.judge.proofs.Faults.{entered, entered_state, Passes, sound_passes}
use Rattle.judge.proofs.Opening.{ready, says_as_opened, well_opened}
use Rattle.judge.proofs.Verdicts.{walked_idle, walked_data, in_step_with, walked_to}

-- ---- a frame with no fault

-- it leaves the state in step, with a zone's octets at most more than before
record Left (s : Settings) (held f : List ℕ) (left : State) : Type 0 where
  octets : List ℕ
  in_step_still : left ≡ in_step_with (some (count s f)) octets
  bounded : length octets ≤ length held + s.zone

passed_leaves : (s : Settings) (last : Option ℕ) (held f : List ℕ) → in_range s ≡ true → Passes s (in_step_with last held) f
    → Left s held f (take_in s (in_step_with last held) f).state
unfolding walk
passed_leaves s last held f ok h =
    test (eqb (pointer s f) idle_zone)
    (λ t. record {
      octets = held;
      in_step_still = entered_state h.enters ∙ ap (walked_to s f) (walked_idle s held f (eqb-true (pointer s f) idle_zone t));
      bounded = omega arith;
    })
    (λ t.
    let z : List ℕ = zone_of s f in
    let on : walked s (in_step held) f ≡ walk s.limit (held ++ z) = walked_data s held f (eqb-false (pointer s f) idle_zone t) in
    let c : Clean s.limit (held ++ z) (walk s.limit (held ++ z)) =
    walk_clean (length (held ++ z)) s.limit (held ++ z) (omega (arith, settled s ok)) (le_refl (length (held ++ z))) (rw on at h.untorn) in
    record {
      octets = c.held;
      in_step_still = entered_state h.enters ∙ ap (walked_to s f) (on ∙ c.gives);
      bounded =
          omega (arith, length_zone s f (accepted s f h.enters.accepted).right-length, length-append held z, length-append (end_to_end c.done) c.held, ap length c.octets);
    })

-- a record between frames that stands for being in step holds just those octets
record Holds (c : ℕ) (os store : List ℕ) (x : Extractor) : Type 0 where
  which : x ≡ InStep c (held_in x)
  octets : take (held_in x) store ≡ os

holds_those : (c : ℕ) (os store : List ℕ) (x : Extractor) → is_entered x ≡ false
    → stands_for store x ≡ in_step_with (some c) os → Holds c os store x
unfolding stands_for
holds_those c os store x between e =
    let which : x ≡ InStep c (held_in x) = between_in_step c os store x between e in
    let its_step : in_step (take (held_in x) store) ≡ in_step os =
    ap (λ (st : State). st.step) (sym (ap (stands_for store) which) ∙ e) in
    record { which = which; octets = cc }

-- ---- what the records that the rules can reach are

pub record SoundReach (s : Settings) (store : List ℕ) (tally last held : ℕ) : Type 0 where
  pub reach : reachable s store (InStep last held) ≡ true
  pub some_frame : 1 ≤ tally
  pub few : tally ≤ most_frames
  pub short : held ≤ tally * s.zone

pub sound_reach : (s : Settings) (store : List ℕ) (tally last held : ℕ) → judge_reachable s store (Sound tally last held) ≡ true
    → SoundReach s store tally last held
unfolding judge_reachable counts_well
sound_reach s store tally last held e =
    let a = and_true (reachable s store (InStep last held)) _ e in
    let b = and_true (leb 1 tally) _ a.1 in
    let c = and_true (leb tally most_frames) _ b.1 in
    record {
      reach = a.0;
      some_frame = leb-true 1 tally b.0;
      few = leb-true tally most_frames c.0;
      short = leb-true held (tally * s.zone) c.1;
    }

pub sound_reachable : {s : Settings} {store : List ℕ} {tally last held : ℕ} → SoundReach s store tally last held
    → judge_reachable s store (Sound tally last held) ≡ true
unfolding judge_reachable counts_well
sound_reachable {s} {store} {tally} {last} {held} r =
    and_both r.reach
    (and_both (le-leb 1 tally r.some_frame)
    (and_both (le-leb tally most_frames r.few) (le-leb held (tally * s.zone) r.short)))

pub fault_before : (s : Settings) (store : List ℕ) (tally at : ℕ) → judge_reachable s store (Faulty tally at) ≡ true → (at < tally) × (tally ≤ most_frames)
unfolding judge_reachable counts_well reachable
fault_before s store tally at e =
    let a = and_true (ltb at tally) _ e in
    (ltb-true at tally a.0, leb-true tally most_frames a.1)

pub tally_most : (s : Settings) (store : List ℕ) (j : Judge) → judge_reachable s store j ≡ true → tally_of j ≤ most_frames
tally_most s store Open reach = omega arith
tally_most s store (Sound tally last held) reach = (sound_reach s store tally last held reach).few
tally_most s store (Faulty tally at) reach = (fault_before s store tally at reach).1

faulty_reachable : (s : Settings) (store : List ℕ) (tally at : ℕ) → at < tally → tally ≤ most_frames → judge_reachable s store (Faulty tally at) ≡ true
unfolding judge_reachable counts_well reachable
faulty_reachable s store tally at before few = and_both (lt-ltb at tally before) (le-leb tally most_frames few)

-- ---- a frame

-- the verdict that the rules give on the frames after those that a record has seen
abbrev pub verdict_from : Settings → List ℕ → Judge → List (List ℕ) → Verdict
verdict_from s store Open fs = judged s 0 opened fs
verdict_from s store (Sound tally last held) fs = judged s tally (stands_for store (InStep last held)) fs
verdict_from s store (Faulty tally at) fs = fault at

-- a frame leads to a record that the rules can reach, and that has seen one frame more, over a store of the same length that is
-- written below the limit alone; `before` gives the verdict on the frame and those after it
pub record Advances (s : Settings) (store : List ℕ) (tally : ℕ) (before : List (List ℕ) → Verdict) (k : Judging) : Type 0 where
  pub reach : judge_reachable s k.store k.next ≡ true
  pub counted : tally_of k.next ≡ tally + 1
  pub same_room : length k.store ≡ length store
  pub beyond : drop s.limit k.store ≡ drop s.limit store
  pub same_verdict : (fs : List (List ℕ)) → before fs ≡ verdict_from s k.store k.next fs

-- a frame with a fault, whatever the store has become
fault_advances : (s : Settings) (n : ℕ) (st : State) (store left f : List ℕ) → n < most_frames → length left ≡ length store
    → drop s.limit left ≡ drop s.limit store → faulty s st f ≡ true
    → Advances s store n (λ fs. judged s n st (f ∷ fs)) (judging (faults_at n) left)
unfolding judged
fault_advances s n st store left f few same far e = record {
  reach = faulty_reachable s left (n + 1) n (omega arith) (omega arith);
  counted = refl;
  same_room = same;
  beyond = far;
  same_verdict = λ fs. rw e;
}

module _ {s : Settings} {n last held : ℕ} {store : List ℕ} (t : Tries s n (InStep last held) store) (short : held ≤ n * s.zone) (f : List ℕ) where
  abbrev before : State
  before = stands_for store (InStep last held)

  abbrev spent : Finds
  spent = through s f (enter s before f) store

  settles : faulty_entry s before f ≡ false → Settles s store (take_in s before f).events (take_in s before f).state spent
  unfolding is_entered
  settles e = steps_are_events s f store (InStep last held) t.ranged (entered s before f e).accepted t.room t.reached refl

  -- what a frame with no fault leaves held
  sound_advances : faulty_entry s before f ≡ false → any_torn spent.events ≡ false
      → Advances s store n (λ fs. judged s n before (f ∷ fs)) (judging (Sound (n + 1) (count s f) (held_in spent.next)) spent.store)
  unfolding stands_for judged faulty is_entered
  sound_advances e untorn =
      let r = settles e in
      let h : ℕ = held_in spent.next in
      let fine : faulty s before f ≡ false = rw (e, ← r.says) untorn in
      let left : Left s (take held store) f (take_in s before f).state =
      passed_leaves s (some last) (take held store) f t.ranged (sound_passes s before f fine) in
      let k : Holds (count s f) left.octets spent.store spent.next =
      holds_those (count s f) left.octets spent.store spent.next r.keeps.stage (r.leaves ∙ left.in_step_still) in
      let reached : reachable s spent.store (InStep (count s f) h) ≡ true = ap (reachable s spent.store) (sym k.which) ∙ r.keeps.reach in
      let exact : length left.octets ≡ h =
      ap length (sym k.octets) ∙ length-take-le h spent.store (held_fits s spent.store (InStep (count s f) h) reached refl) in
      record {
        reach = sound_reachable (record {
          reach = reached;
          some_frame = omega arith;
          few = omega (arith, t.few);
          short = omega (arith, left.bounded, length-take held store, add-mul n 1 s.zone);
        });
        counted = refl;
        same_room = r.keeps.same_room;
        beyond = r.keeps.beyond;
        same_verdict = λ fs. rw fine (ap (λ (y : State). judged s (n + 1) y fs) (sym r.leaves ∙ ap (stands_for spent.store) k.which));
      }

  try_advances : Advances s store n (λ fs. judged s n before (f ∷ fs)) (try_frame s n before store f)
  unfolding try_frame stepped_through faulty
  try_advances =
      test (faulty_entry s before f)
      (λ u. rw u (fault_advances s n before store store f t.few refl refl (rw u)))
      (λ u. rw u (test (any_torn spent.events)
      (λ v. rw v (fault_advances s n before store spent.store f t.few (settles u).keeps.same_room (settles u).keeps.beyond
      (rw (u, ← (settles u).says) v)))
      (λ v. rw v (sound_advances u v))))

-- the first frame, as from the record that it is entered from
judged_opened : (s : Settings) (store f : List ℕ) (fs : List (List ℕ))
    → judged s 0 opened (f ∷ fs) ≡ judged s 0 (stands_for store (ready s (count s f))) (f ∷ fs)
unfolding judged faulty faulty_entry
judged_opened s store f fs = rw (says_as_opened s store f) refl

pub judge_advances : (s : Settings) (store : List ℕ) (j : Judge) (f : List ℕ) → Accepts s store j
    → Advances s store (tally_of j) (λ fs. verdict_from s store j (f ∷ fs)) (judge_frame s store j f)
unfolding judge_frame
judge_advances s store Open f a =
    let k = try_advances (open_tries (count s f) a) (omega arith) f in
    rw (← (well_opened s store f)) (record {
      reach = k.reach;
      counted = k.counted;
      same_room = k.same_room;
      beyond = k.beyond;
      same_verdict = λ fs. judged_opened s store f fs ∙ k.same_verdict fs;
    })
judge_advances s store (Sound tally last held) f a =
    try_advances (sound_tries a) (sound_reach s store tally last held a.found.reached).short f
judge_advances s store (Faulty tally at) f a = record {
  reach = faulty_reachable s store (tally + 1) at (omega (arith, fault_before s store tally at a.found.reached)) (omega (arith, a.few));
  counted = refl;
  same_room = refl;
  beyond = refl;
  same_verdict = λ fs. refl;
}
