-- The records that a judge's calls lead to are those that pass the test for refusal 10.
-- Assumes nothing.
use mathlib.Core.Path.{◌≡◌, refl, sym, ap, ◌∙◌, subst}
use mathlib.Core.List.{List, [], ◌∷◌, ◌++◌}
use mathlib.Core.Option.{some}
use mathlib.Core.Bool.{true, false}
use Prim.Native.Nat.{ℕ, zero, suc, ◌+◌, ◌-◌, ◌*◌, ◌^◌, ◌≤◌, ◌<◌}
use native.Mathlib.Nat.{add-mul}
use native.Mathlib.Numerals.{add-one}
use native.Mathlib.Omega.{arith}
use lib.ListN.{length, take, drop, replicate, length-append, length-drop, length-replicate}
use lib.Seq.{length-take-le, take-add, drop-drop}
use lib.Dec.{leb, eqb}
use borrow.Author.Tests.{leb-true, leb-false, le-leb, ltb-true, eqb-true, eqb-false, ne_eqb}
use Rattle.octets.specs.Basics.{AllOctets, first}
use Rattle.words.specs.Fields.{field}
use Rattle.octets.proofs.Choices.{and_true}
use Rattle.octets.proofs.Fronts.{all_take, all_drop, all_append}
use Rattle.octets.proofs.Tests.{test}
use Rattle.packets.specs.Packet.{whole, look, encapsulation, is_idle}
use Rattle.frames.specs.Link.{around, zone_at, count_width}
use Rattle.frames.specs.Frame.{no_start, in_range, frame_length, frame_rows, zone_of, pointer, count, most_frames}
use Rattle.frames.specs.declared.Settings.{Settings}
use Rattle.frames.proofs.Accepted.{length_zone}
use Rattle.frames.proofs.Framed.{framed, framed_is, pointer_inside, pointer_beyond}
use Rattle.frames.proofs.Settled.{settled}
use Rattle.frames.proofs.Wheel.{count_before, follows_before, starts_on_wheel}
use Rattle.extractor.specs.Extract.{State, in_step, any_torn, agreed, reason_by, reason_in, lost_since}
use Rattle.extractor.specs.Records.{unfinished, holds_well, on_wheel, reachable, is_entered, stands_for, set_off, set_out, enter, steps_to, handed_over, step_look, step, step_call, shown}
use Rattle.extractor.specs.Calls.{event_at, Finds, steps, through}
use Rattle.extractor.specs.declared.Extractor.TheVariants.{InStep, Walking}
use Rattle.extractor.specs.Found.{InFrame}
use Rattle.extractor.proofs.Places.{BegunIn, Place, in_zone, in_packet, holds_packet, walking_reachable, ahead}
use Rattle.extractor.proofs.Reaches.{step_next, all_framed, outlasted_agrees, kept_step, begun_within, counted}
use Rattle.extractor.proofs.Settles.{step_unrefused}
use Rattle.extractor.proofs.Walked.{event_whole}
use Rattle.judge.specs.Judge.{opened, is_fault, faulty_entry}
use Rattle.judge.specs.Calls.{tally_of, counts_well, judge_reachable, judging, faults_at, stepped_through, try_frame, judge_frame, JudgeSaid, judge_answers, Calling}
use Rattle.judge.specs.Statements.{Keeps}
use Rattle.judge.specs.Reach.{Reached, begins, judges, plays, ReachesAll}
use Rattle.judge.specs.declared.Judge.{Judge}
use Rattle.judge.specs.declared.Judge.TheVariants.{Open, Sound, Faulty}
use Rattle.judge.proofs.Accepting.{Accepts}
use Rattle.judge.proofs.Advances.{sound_reach, SoundReach, fault_before}
use Rattle.judge.proofs.Faults.{Enters, entered_faultless, step_kept}
use Rattle.judge.proofs.Opening.{ready_on_wheel}
use Rattle.judge.proofs.Runs.{frame_answered}
use Rattle.judge.proofs.Theorems.{keeps_to_the_test}

-- ---- what calls lead to passes the test

call_sound : {call : Calling} → Keeps call → (s : Settings) (store : List ℕ) (j : Judge) (os : List ℕ) → judge_reachable s store j ≡ true
    → judge_reachable s (call s store j os).store (call s store j os).next ≡ true
call_sound {call} keeps s store j os reach =
    test (eqb (call s store j os).refusal 0)
    (λ t. keeps.reached s store j os (eqb-true (call s store j os).refusal 0 t))
    (λ t. rw (keeps.refused s store j os (eqb-false (call s store j os).refusal 0 t)) reach)

reached_sound : {s : Settings} {j : Judge} {store : List ℕ} → Reached s j store → judge_reachable s store j ≡ true
unfolding judge_reachable counts_well reachable
reached_sound begins = refl
reached_sound {s} (judges {j} {store} f small r) = call_sound keeps_to_the_test.frame s store j f (reached_sound r)
reached_sound {s} (plays {j} {store} t small r) = call_sound keeps_to_the_test.tape s store j t (reached_sound r)

-- ---- the other way: frames that lead to a record

-- steps that find no damage, leave so many octets held, and the store as it is
record Kept (store : List ℕ) (c h : ℕ) (t : Finds) : Type 0 where
  untorn : any_torn t.events ≡ false
  which : t.next ≡ InStep c h
  same : t.store ≡ store

-- frame n, with nothing wrong about it, whose steps leave the store as it is
tried_well : (s : Settings) (n c h : ℕ) (st : State) (store f : List ℕ) → Enters s st f → count s f ≡ c
    → Kept store c h (through s f (set_out s (count s f) (pointer s f) st.step) store)
    → try_frame s n st store f ≡ judging (Sound (n + 1) c h) store
unfolding try_frame stepped_through enter
tried_well s n c h st store f e its_count k = rw (entered_faultless e, step_kept e, k.untorn, k.which, k.same, its_count)

-- the shortest idle packet
idle_octet : ℕ
idle_octet = 224

look_idle : (limit : ℕ) (os : List ℕ) → look limit (idle_octet ∷ os) ≡ whole 1
unfolding look encapsulation field idle_octet
look_idle limit os = refl

all_idle : (n : ℕ) → AllOctets (replicate n idle_octet)
unfolding idle_octet
all_idle zero = tt
all_idle (suc n) = (omega arith, all_idle n)

module _ (s : Settings) (store : List ℕ) (ok : in_range s ≡ true) (room : s.limit ≤ length store) (small : AllOctets store) where
  -- a step of a walk that is not refused
  walks_on : (f : List ℕ) {h at : ℕ} (c : ℕ) → on_wheel s c ≡ true → length f ≡ frame_length s → Place s store h at
      → step_call s (Walking c h at) store f ≡ step s f store (Walking c h at)
  unfolding is_entered
  walks_on f {h} {at} c wheel right p =
      step_next s (Walking c h at) store f
      (step_unrefused s (Walking c h at) store f ok room (walking_reachable s store c wheel p) refl right)

  -- a last step that keeps what the store holds already
  kept_last : (f : List ℕ) {c h at n : ℕ} (k : ℕ) → on_wheel s c ≡ true → length f ≡ frame_length s → Place s store h at
      → ahead s f store h at ≡ take n store → n ≤ length store → BegunIn s store n
      → Kept store c n (steps s f (suc k) (Walking c h at) store)
  unfolding steps event_at
  kept_last f {c} k wheel right p same fits begun =
      rw (walks_on f c wheel right p, kept_step s store ok room small f {c = c} right p same fits begun)
      (record { untorn = refl; which = refl; same = refl })

  -- a step over an idle packet of one octet
  step_idle : (f os : List ℕ) (c at : ℕ) → drop at (zone_of s f) ≡ idle_octet ∷ os
      → step s f store (Walking c 0 at) ≡ steps_to (InFrame (zone_at s.link + at) 1 (is_idle (idle_octet ∷ []))) (Walking c 0 (at + 1)) store
  unfolding step step_look handed_over
  step_idle f os c at e = rw (e, look_idle s.limit os, le-leb 1 (0 + length (idle_octet ∷ os)) (omega arith))

  -- idle packets of one octet, and then what is held
  kept_behind : (f : List ℕ) (c h r at k : ℕ) → on_wheel s c ≡ true → length f ≡ frame_length s → at ≤ s.zone → r ≤ k
      → drop at (zone_of s f) ≡ replicate r idle_octet ++ take h store → h ≤ length store → BegunIn s store h
      → Kept store c h (steps s f (suc k) (Walking c 0 at) store)
  unfolding steps event_at
  kept_behind f c h zero at k wheel right inside turns e fits begun = kept_last f k wheel right (in_zone {at = at} inside) e fits begun
  kept_behind f c h (suc r) at zero wheel right inside turns e fits begun = absurd (omega arith)
  kept_behind f c h (suc r) at (suc k) wheel right inside turns e fits begun =
      let os : List ℕ = replicate r idle_octet ++ take h store in
      let left : length (drop at (zone_of s f)) ≡ suc (length os) = ap length e in
      let before-end : at < s.zone = omega (arith, length-drop at (zone_of s f), length_zone s f right) in
      let rest : drop (at + 1) (zone_of s f) ≡ os = sym (drop-drop 1 at (zone_of s f)) ∙ ap (drop 1) e in
      let t = kept_behind f c h r (at + 1) k wheel right (omega arith) (omega arith) rest fits begun in
      let later : Finds = steps s f (suc k) (Walking c 0 (at + 1)) store in
      rw (walks_on f c wheel right (in_zone {at = at} inside), step_idle f os c at e) (record {
        untorn = event_whole (is_idle (idle_octet ∷ [])) (shown f store (InFrame (zone_at s.link + at) 1 (is_idle (idle_octet ∷ [])))) later.events ∙ t.untorn;
        which = t.which;
        same = t.same;
      })

  -- the frame whose zone ends with the first h octets of the store, behind idle packets
  abbrev beginning : ℕ → ℕ → List ℕ
  beginning c h = framed s c 0 (replicate (s.zone - h) idle_octet ++ take h store)

  -- a frame that begins the packet, where nothing is held before it
  tried_beginning : (n c h : ℕ) (st : State) → st.step ≡ in_step [] → lost_since s st.last c ≡ 0 → on_wheel s c ≡ true → h ≤ s.zone
      → BegunIn s store h → try_frame s n st store (beginning c h) ≡ judging (Sound (n + 1) c h) store
  unfolding set_off reason_in reason_by agreed
  tried_beginning n c h st none_held lost wheel fits begun =
      let f : List ℕ = beginning c h in
      let front : List ℕ = replicate (s.zone - h) idle_octet in
      let held_fits : h ≤ length store = omega (arith, settled s ok) in
      let z-length : length (front ++ take h store) ≡ s.zone = simp (length-append, length-replicate, length-take-le h store held_fits) (omega arith) in
      let r = framed_is s c 0 (front ++ take h store) ok (counted s store ok room small c wheel) (omega arith) z-length
      (pointer_inside s 0 (omega (arith, settled s ok))) in
      tried_well s n c h st store f
      (record { accepted = r.taken; lost = rw r.its_count lost; reason = rw (none_held, r.its_pointer) }) r.its_count
      (rw (none_held, r.its_pointer, r.its_count)
      (kept_behind f c h (s.zone - h) 0 s.zone wheel r.its_length (omega arith) (omega arith) r.its_zone held_fits begun))

  -- the frame that goes on with the packet, from its octet h on, and does not end it
  abbrev going_on : ℕ → ℕ → List ℕ
  going_on c h = framed s c no_start (take s.zone (drop h store))

  tried_going_on : (n last c h : ℕ) → lost_since s (some last) c ≡ 0 → on_wheel s c ≡ true → 1 ≤ h → h + s.zone ≤ length store
      → BegunIn s store (h + s.zone)
      → try_frame s n (stands_for store (InStep last h)) store (going_on c h) ≡ judging (Sound (n + 1) c (h + s.zone)) store
  unfolding set_off reason_in reason_by stands_for
  tried_going_on n last c h lost wheel some-held fits begun =
      let f : List ℕ = going_on c h in
      let z : List ℕ = take s.zone (drop h store) in
      let held : List ℕ = take h store in
      let held-length : length held ≡ h = length-take-le h store (omega arith) in
      let z-length : length z ≡ s.zone = length-take-le s.zone (drop h store) (simp length-drop (omega arith)) in
      let joined : held ++ z ≡ take (h + s.zone) store = sym (take-add h s.zone store) in
      let all-length : length (held ++ z) ≡ h + s.zone = ap length joined ∙ length-take-le (h + s.zone) store fits in
      let agree : agreed s held z ≡ some (no_start ∷ []) = outlasted_agrees s held z (omega arith) z-length (rw (all-length, joined) begun) in
      let r = framed_is s c no_start z ok (counted s store ok room small c wheel) (omega arith) z-length (pointer_beyond s no_start (omega arith)) in
      let held-begun : BegunIn s store h = begun_within s store ok room small h s.zone fits begun in
      let same : ahead s f store h 0 ≡ take (h + s.zone) store = ap (λ y. held ++ y) r.its_zone ∙ joined in
      tried_well s n c (h + s.zone) (stands_for store (InStep last h)) store f
      (record { accepted = r.taken; lost = rw r.its_count lost; reason = rw (r.its_pointer, r.its_zone, agree) }) r.its_count
      (rw (r.its_pointer, r.its_count, held-length)
      (kept_last f s.zone wheel r.its_length (in_packet some-held (omega arith) held-begun) same fits begun))

  -- calls lead there, over this very store
  abbrev Led : Judge → Type 0
  Led j = Reached s j store

  led_by : (j : Judge) {k : Judge} (f : List ℕ) → AllOctets f → tally_of j < most_frames → judge_frame s store j f ≡ judging k store → Led j → Led k
  led_by j f small-frame few e r =
      let a : Accepts s store j = record { found = record { ranged = ok; room = room; reached = reached_sound r }; few = few } in
      subst (λ (w : JudgeSaid). Reached s w.next w.store) (frame_answered f a ∙ ap (judge_answers 0) e) (judges f small-frame r)

  all_beginning : (c h : ℕ) → AllOctets (beginning c h)
  all_beginning c h =
      let front : List ℕ = replicate (s.zone - h) idle_octet in
      all_framed s c 0 (front ++ take h store) (all_append front (take h store) (all_idle (s.zone - h)) (all_take h store small))

  all_going_on : (c h : ℕ) → AllOctets (going_on c h)
  all_going_on c h = all_framed s c no_start (take s.zone (drop h store)) (all_take s.zone (drop h store) (all_drop h store small))

  -- what is to be shown of a tally: whatever it can hold is reached
  abbrev LedSound : ℕ → Type 0
  LedSound n = (c h : ℕ) → on_wheel s c ≡ true → h ≤ n * s.zone → h ≤ length store → BegunIn s store h → Led (Sound n c h)

  led_first : LedSound 1
  unfolding judge_frame lost_since
  led_first c h wheel short fits begun =
      led_by Open (beginning c h) (all_beginning c h) (omega arith)
      (tried_beginning 0 c h opened refl refl wheel (omega arith) begun) begins

  led_next : (n : ℕ) → n < most_frames → LedSound n → LedSound (n + 1)
  unfolding judge_frame lost_since stands_for unfinished look
  led_next n few earlier c h wheel short fits begun =
      let last : ℕ = count_before (count_width s.link) c in
      let last-wheel : on_wheel s last ≡ true = ready_on_wheel s c in
      let lost = follows_before (count_width s.link) c (ltb-true c (2 ^ count_width s.link) wheel) in
      test (leb h s.zone)
      (λ t. led_by (Sound n last 0) (beginning c h) (all_beginning c h) few
      (tried_beginning n c h (stands_for store (InStep last 0)) refl lost wheel (leb-true h s.zone t) begun)
      (earlier last 0 last-wheel (omega arith) (omega arith) refl))
      (λ t.
      let k : ℕ = h - s.zone in
      let long : s.zone < h = leb-false h s.zone t in
      let e : h ≡ k + s.zone = omega arith in
      let begun' : BegunIn s store (k + s.zone) = rw (← e) begun in
      rw e (led_by (Sound n last k) (going_on c k) (all_going_on c k) few
      (tried_going_on n last c k lost wheel (omega arith) (omega arith) begun')
      (earlier last k last-wheel (omega (arith, add-mul n 1 s.zone)) (omega arith) (begun_within s store ok room small k s.zone (omega arith) begun'))))

  led_sound : (n : ℕ) → 1 ≤ n → n ≤ most_frames → LedSound n
  led_sound zero some_frame few = absurd (omega arith)
  led_sound (suc zero) some_frame few = led_first
  led_sound (suc (suc n)) some_frame few = rw (← add-one (suc n)) (led_next (suc n) (omega arith) (led_sound (suc n) (omega arith) (omega arith)))

  -- a frame of no octets is a fault
  tried_empty : (n : ℕ) (st : State) → try_frame s n st store [] ≡ judging (faults_at n) store
  unfolding try_frame faulty_entry is_fault first frame_rows frame_length
  tried_empty n st = rw (ne_eqb 0 (s.zone + around s.link) (omega arith))

  led_fault : (n : ℕ) → n < most_frames → Led (faults_at n)
  unfolding judge_frame unfinished look
  led_fault zero few = led_by Open [] tt few (tried_empty 0 opened) begins
  led_fault (suc n) few =
      led_by (Sound (suc n) 0 0) [] tt few (tried_empty (suc n) (stands_for store (InStep 0 0)))
      (led_sound (suc n) (omega arith) (omega arith) 0 0 (starts_on_wheel s.link) (omega arith) (omega arith) refl)

  led_faulty : (n at : ℕ) → at < n → n ≤ most_frames → Led (Faulty n at)
  unfolding judge_frame
  led_faulty zero at before few = absurd (omega arith)
  led_faulty (suc n) at before few =
      test (eqb at n)
      (λ t. rw (← add-one n, eqb-true at n t) (led_fault n (omega arith)))
      (λ t. rw (← add-one n)
      (led_by (Faulty n at) [] tt (omega arith) refl (led_faulty n at (omega (arith, eqb-false at n t)) (omega arith))))

  reachable_reached : (j : Judge) → judge_reachable s store j ≡ true → Reached s j store
  unfolding reachable unfinished look
  reachable_reached Open reach = begins
  reachable_reached (Sound tally last zero) reach =
      let r : SoundReach s store tally last 0 = sound_reach s store tally last 0 reach in
      led_sound tally r.some_frame r.few last 0 (and_true (on_wheel s last) _ r.reach).0 (omega arith) (omega arith) refl
  reachable_reached (Sound tally last (suc h)) reach =
      let r : SoundReach s store tally last (suc h) = sound_reach s store tally last (suc h) reach in
      let a = and_true (on_wheel s last) (holds_well s store (suc h)) r.reach in
      let (fits, begun) = holds_packet s store h a.1 in
      led_sound tally r.some_frame r.few last (suc h) a.0 r.short fits begun
  reachable_reached (Faulty tally at) reach =
      let (before, few) = fault_before s store tally at reach in
      led_faulty tally at before few

pub reaches_all : ReachesAll
reaches_all s j store (ok, room) small = (reached_sound, reachable_reached s store ok room small j)
