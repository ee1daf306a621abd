-- The records that calls lead to are those that the test for refusal 10 lets through, but for one kind.
-- Assumes nothing.
use mathlib.Core.Logic.{◌↔◌}
use mathlib.Core.Path.{◌≡◌, refl, sym, ap, ap₂, ◌∙◌, subst}
use mathlib.Core.List.{List, [], ◌∷◌, ◌++◌}
use mathlib.Core.Option.{some}
use mathlib.Core.Bool.{true, false}
use Prim.Native.Nat.{ℕ, zero, suc, ◌+◌, ◌-◌, ◌≤◌, ◌<◌, ◌^◌}
use native.Mathlib.Omega.{arith}
use lib.ListN.{length, take, drop, replicate, length-append, length-take, length-drop, length-replicate, take-append-drop, drop_of_length-le}
use lib.Seq.{length-take-le, take-add, drop_at}
use lib.Dec.{leb, ltb, eqb, eqb-suc-zero}
use borrow.Author.Tests.{ltb-true, ltb-false, leb-true, leb-false, eqb-true, lt-ltb, le-ltb, ne_eqb, eq-eqb}
use Rattle.octets.specs.Basics.{AllOctets, octets, first}
use Rattle.octets.proofs.Choices.{apart, and_true}
use Rattle.octets.proofs.Fronts.{all_take, all_drop, all_append, all_zeros, all_octets}
use Rattle.octets.proofs.Tests.{test, and_both}
use Rattle.packets.specs.Packet.{Look, more, damaged, whole, look, Undamaged}
use Rattle.packets.proofs.Begun.{damaged-append}
use Rattle.packets.proofs.Grown.{look-append}
use Rattle.trailer.proofs.Setting.{sent_octets}
use Rattle.frames.specs.Link.{head_word, headers, count_width}
use Rattle.frames.specs.Frame.{idle_zone, no_start, in_range, frame_length, zone_of, pointer_word, head}
use Rattle.frames.specs.declared.Settings.{Settings}
use Rattle.frames.proofs.Accepted.{length_zone, accepted}
use Rattle.frames.proofs.Framed.{framed, Used, Framed, framed_is, pointer_inside, pointer_beyond}
use Rattle.frames.proofs.Settled.{settled}
use Rattle.frames.proofs.Wheel.{count_before, before_on_wheel, follows_before}
use Rattle.extractor.specs.Extract.{astray, in_step, Walked, agreed_look, agreed, reason_by, reason_in, lost_since, reason_of, step_of}
use Rattle.extractor.specs.Records.{unfinished, holds_well, on_wheel, reachable, is_entered, held_in, stands_for, enter_rows, set_off, set_out, enter, step_rows, Stepped, steps_to, step, step_call}
use Rattle.extractor.specs.Answers.{enter_answer}
use Rattle.extractor.specs.Reach.{Reached, begins, enters, steps, lent, CanGoOn, Continues}
use Rattle.extractor.specs.declared.Extractor.{Extractor}
use Rattle.extractor.specs.declared.Extractor.TheVariants.{Fresh, Astray, InStep, Walking, Leaving}
use Rattle.extractor.specs.Found.{Spent}
use Rattle.extractor.proofs.Entries.{Arrival, nothing, onward, arrival}
use Rattle.extractor.proofs.Listens.{entering_refusal}
use Rattle.extractor.proofs.Places.{Begun, BegunIn, Place, in_zone, in_packet, holds_packet, holds_none, holds_some, ahead}
use Rattle.extractor.proofs.Settles.{enter_reachable, step_keeps, step_unrefused}
use Rattle.extractor.proofs.Turns.{Turn, leave, keep, break, give, turn, walking_turn}
use Rattle.extractor.proofs.Unrefused.{arrives, moves}

-- ---- a call that is refused leaves the record, and one that is not does what the rules say

module _ (s : Settings) (x : Extractor) (store f : List ℕ) where
  pub enter_next : first (enter_rows s x store f) ≡ 0 → (enter_answer s x store f).next ≡ enter s (stands_for store x) f
  unfolding enter_answer
  enter_next e = rw e refl

  enter_stays : eqb (first (enter_rows s x store f)) 0 ≡ false → (enter_answer s x store f).next ≡ x
  unfolding enter_answer
  enter_stays t = rw t refl

  pub step_next : first (step_rows s x store f) ≡ 0 → step_call s x store f ≡ step s f store x
  unfolding step_call
  step_next e = rw e refl

-- ---- what calls lead to is reachable, and what is held can go on

pub record Sound (s : Settings) (x : Extractor) (store : List ℕ) : Type 0 where
  pub reach : reachable s store x ≡ true
  pub goes_on : Continues s store x

arrival_continues : (s : Settings) (f store : List ℕ) {w : Walked} {x : Extractor} → AllOctets f → length f ≡ frame_length s
    → Arrival s f store w x → Continues s store x
unfolding zone_of
arrival_continues s f store small right nothing = tt
arrival_continues s f store small right (onward {h = zero} p undamaged) = tt
arrival_continues s f store small right (onward {h = suc h} p undamaged) =
    (zone_of s f, all_take s.zone (drop 8 f) (all_drop 8 f small), length_zone s f right, undamaged (omega arith))

turn_continues : (s : Settings) (f store : List ℕ) {x : Extractor} {w : Stepped} → Turn s f store x w → Continues s w.store w.next
turn_continues s f store leave = tt
turn_continues s f store (keep begun fits) = tt
turn_continues s f store (break e before) = tt
turn_continues s f store (give packed e fits seen rest low high same far) = tt

enters_sound : (s : Settings) (x : Extractor) (store f : List ℕ) → AllOctets f → Sound s x store → Sound s (enter_answer s x store f).next store
enters_sound s x store f small k =
    test (eqb (first (enter_rows s x store f)) 0)
    (λ t.
    let e : first (enter_rows s x store f) ≡ 0 = eqb-true (first (enter_rows s x store f)) 0 t in
    let a = arrives s x store f e in
    rw (enter_next s x store f e) (record {
      reach = (enter_reachable s f store x a.ranged a.accepts a.reached a.between).0;
      goes_on =
          arrival_continues s f store small (accepted s f a.accepts).right-length
          (arrival s f store x a.ranged a.accepts a.reached a.between);
    }))
    (λ t. rw (enter_stays s x store f t) k)

steps_sound : (s : Settings) (x : Extractor) (store f : List ℕ) → Sound s x store
    → Sound s (step_call s x store f).next (step_call s x store f).store
unfolding step_call
steps_sound s x store f k =
    test (eqb (first (step_rows s x store f)) 0)
    (λ t.
    let m = moves s x store f (eqb-true (first (step_rows s x store f)) 0 t) in
    rw t (record {
      reach = (step_keeps s f store x m.ranged m.framed m.room m.reached m.underway).reach;
      goes_on = turn_continues s f store (turn s f store m.ranged m.framed m.room x m.reached m.underway);
    }))
    (λ t. rw t k)

-- a store lent anew
holds_lent : (s : Settings) (store st : List ℕ) (h : ℕ) → take h st ≡ take h store → holds_well s store h ≡ true → holds_well s st h ≡ true
holds_lent s store st zero same well = holds_none s st
holds_lent s store st (suc h) same well =
    let (room, begun) = holds_packet s store h well in
    let here : suc h ≤ length st = omega (arith, length-take (suc h) st, ap length same, length-take-le (suc h) store room) in
    holds_some s st (suc h) here (rw same begun)

lent_reachable : (s : Settings) (store st : List ℕ) (x : Extractor) → take (held_in x) st ≡ take (held_in x) store
    → reachable s store x ≡ true → reachable s st x ≡ true
unfolding reachable
lent_reachable s store st Fresh same reach = refl
lent_reachable s store st (Astray last) same reach = reach
lent_reachable s store st (InStep last h) same reach =
    let a = and_true (on_wheel s last) _ reach in
    and_both a.0 (holds_lent s store st h same a.1)
lent_reachable s store st (Walking last zero at) same reach = reach
lent_reachable s store st (Walking last (suc h) at) same reach =
    let a = and_true (on_wheel s last) _ reach in
    let b = and_true (eqb at 0) _ (rw (eqb-suc-zero h) at a.1) in
    rw (eqb-suc-zero h) (and_both a.0 (and_both b.0 (holds_lent s store st (suc h) same b.1)))
lent_reachable s store st (Leaving last) same reach = reach

lent_continues : (s : Settings) (store st : List ℕ) (x : Extractor) → take (held_in x) st ≡ take (held_in x) store
    → Continues s store x → Continues s st x
lent_continues s store st Fresh same c = tt
lent_continues s store st (Astray last) same c = tt
lent_continues s store st (InStep last h) same c = tt
lent_continues s store st (Walking last zero at) same c = tt
lent_continues s store st (Walking last (suc h) at) same (z, small, fits, undamaged) = (z, small, fits, rw same undamaged)
lent_continues s store st (Leaving last) same c = tt

pub reached_sound : {s : Settings} {x : Extractor} {store : List ℕ} → Reached s x store → Sound s x store
unfolding reachable
reached_sound {s} begins = record { reach = refl; goes_on = tt }
reached_sound {s} (enters {x} {store} f small r) = enters_sound s x store f small (reached_sound r)
reached_sound {s} (steps {x} {store} f small r) = steps_sound s x store f (reached_sound r)
reached_sound {s} (lent {x} {store} {st} same r) =
    let k = reached_sound r in
    record { reach = lent_reachable s store st x same k.reach; goes_on = lent_continues s store st x same k.goes_on }

-- ---- the other way: calls that lead to a record

-- the count before a count
abbrev before : Settings → ℕ → ℕ
before s c = count_before (count_width s.link) c

-- a step that keeps the octets ahead for later
keeps_on : (s : Settings) (f store : List ℕ) {last h at : ℕ} {w : Stepped} → Turn s f store (Walking last h at) w
    → Begun s.limit (ahead s f store h at)
    → w ≡ steps_to Spent (InStep last (length (ahead s f store h at))) (ahead s f store h at ++ drop (length (ahead s f store h at)) store)
unfolding unfinished
keeps_on s f store (keep begun fits) e = refl
keeps_on s f store (break d low) e = apart (let z : false ≡ true = rw d at e in cc)
keeps_on s f store {h = h} {at = at} (give {l = l} packed w fits seen rest low high same far) e =
    absurd (omega (arith, ltb-true (length (ahead s f store h at)) l (rw w at e)))

pub all_framed : (s : Settings) (c p : ℕ) (z : List ℕ) → AllOctets z → AllOctets (framed s c p z)
unfolding framed head headers
all_framed s c p z small =
    sent_octets s.link.trailed (head s c p ++ z)
    (let front : List ℕ = octets 6 (head_word s.link c 0) in
    let back : List ℕ = octets 2 (pointer_word p) in
    all_append (front ++ back) z (all_append front back (all_octets 6 (head_word s.link c 0)) (all_octets 2 (pointer_word p))) small)

-- a frame that follows the last one, with the pointer that agrees with what is held
step_held : (s : Settings) (held f z : List ℕ) (c p : ℕ) → c < 2 ^ count_width s.link → Framed s c p z f → agreed s held z ≡ some (p ∷ [])
    → step_of s (record { last = some (before s c); step = in_step held }) f ≡ in_step held
unfolding step_of reason_of lost_since reason_in reason_by
step_held s held f z c p c-small r agree =
    rw (r.its_count, follows_before (count_width s.link) c c-small, r.its_pointer, r.its_zone, agree, eq-eqb p p refl)

enter_held : (s : Settings) (held f z : List ℕ) (c p : ℕ) → c < 2 ^ count_width s.link → Framed s c p z f → agreed s held z ≡ some (p ∷ [])
    → (p ≡ idle_zone → ⊥) → enter s (record { last = some (before s c); step = in_step held }) f ≡ Walking c (length held) 0
unfolding enter set_off
enter_held s held f z c p c-small r agree not_idle =
    rw (step_held s held f z c p c-small r agree, r.its_count, r.its_pointer, ne_eqb p idle_zone not_idle) refl

-- of octets that begin a packet, the first begin it too
begun_before : (limit : ℕ) (xs ys : List ℕ) → 1 ≤ limit → Begun limit (xs ++ ys) → Begun limit xs
unfolding unfinished
begun_before limit xs ys room e = go (look limit xs) refl
  where
    go : (r : Look) → look limit xs ≡ r → unfinished (length xs) r ≡ true
    go more m = refl
    go (damaged d) m = let z : false ≡ true = rw (damaged-append limit xs ys room m) at e in z
    go (whole l) m =
        lt-ltb (length xs) l
        (omega (arith, ltb-true (length (xs ++ ys)) l (rw (look-append limit xs ys room m) at e), length-append xs ys))

-- a zone that a packet begun outlasts has no start
pub outlasted_agrees : (s : Settings) (held z : List ℕ) → 1 ≤ length held → length z ≡ s.zone → Begun s.limit (held ++ z)
    → agreed s held z ≡ some (no_start ∷ [])
unfolding agreed agreed_look unfinished
outlasted_agrees s [] z some-held fits e = absurd (omega arith)
outlasted_agrees s (o ∷ os) z some-held fits e = go (look s.limit ((o ∷ os) ++ z)) e
  where
    go : (r : Look) → unfinished (length ((o ∷ os) ++ z)) r ≡ true → agreed_look s (o ∷ os) r ≡ some (no_start ∷ [])
    go more m = refl
    go (damaged d) m = cc
    go (whole l) m =
        let long : length ((o ∷ os) ++ z) < l = ltb-true (length ((o ∷ os) ++ z)) l m in
        rw (le-ltb (l - length (o ∷ os)) s.zone (omega (arith, length-append (o ∷ os) z)))

-- a zone that leaves the header of what is held undamaged agrees with one pointer
record Agrees (s : Settings) (held z : List ℕ) (p : ℕ) : Type 0 where
  agrees : agreed s held z ≡ some (p ∷ [])
  short : p < 2 ^ 11
  used : Used s p
  not_idle : p ≡ idle_zone → ⊥

agrees_with : (s : Settings) (held z : List ℕ) → in_range s ≡ true → 1 ≤ length held → Undamaged (look s.limit (held ++ z))
    → (p : ℕ) × Agrees s held z p
unfolding agreed agreed_look
agrees_with s [] z ok some-held undamaged = absurd (omega arith)
agrees_with s (o ∷ os) z ok some-held undamaged = go (look s.limit ((o ∷ os) ++ z)) refl
  where
    unstarted : agreed s (o ∷ os) z ≡ some (no_start ∷ []) → Agrees s (o ∷ os) z no_start
    unstarted e = record { agrees = e; short = omega arith; used = pointer_beyond s no_start (omega arith); not_idle = λ q. omega arith }

    go : (r : Look) → look s.limit ((o ∷ os) ++ z) ≡ r → (p : ℕ) × Agrees s (o ∷ os) z p
    go more m = (no_start, unstarted (rw m refl))
    go (damaged d) m = absurd (undamaged d m)
    go (whole l) m =
        let p : ℕ = l - length (o ∷ os) in
        test (ltb p s.zone)
        (λ t.
        let low : p < s.zone = ltb-true p s.zone t in
        let small-zone : s.zone ≤ 2046 = omega (arith, settled s ok) in
        (p, record { agrees = rw (m, t) refl; short = omega arith; used = pointer_inside s p low; not_idle = λ q. omega arith }))
        (λ t. (no_start, unstarted (rw (m, t) refl)))

-- a zone of nothing
abbrev blank : Settings → List ℕ
blank s = replicate s.zone 0

module _ (s : Settings) (store : List ℕ) (ok : in_range s ≡ true) (room : s.limit ≤ length store) (small : AllOctets store) where
  some_room : 1 ≤ s.limit
  some_room = omega (arith, settled s ok)

  led_in : {x : Extractor} (c p : ℕ) (z : List ℕ) → AllOctets z → Framed s c p z (framed s c p z) → is_entered x ≡ false
      → Reached s x store → Reached s (enter s (stands_for store x) (framed s c p z)) store
  led_in {x} c p z z-small r between d =
      let f : List ℕ = framed s c p z in
      let e : first (enter_rows s x store f) ≡ 0 = entering_refusal s x store f ok room (reached_sound d).reach between ∙ r.taken in
      subst (λ (y : Extractor). Reached s y store) (enter_next s x store f e) (enters f (all_framed s c p z z-small) d)

  led_step : {x : Extractor} (f : List ℕ) → AllOctets f → length f ≡ frame_length s → is_entered x ≡ true
      → Reached s x store → Reached s (step s f store x).next (step s f store x).store
  led_step {x} f f-small right entered d =
      let e : first (step_rows s x store f) ≡ 0 = step_unrefused s x store f ok room (reached_sound d).reach entered right in
      subst (λ (w : Stepped). Reached s w.next w.store) (step_next s x store f e) (steps f f-small d)

  -- octets kept for later that the store holds already
  pub kept_step : (f : List ℕ) {c h at n : ℕ} → length f ≡ frame_length s → Place s store h at → ahead s f store h at ≡ take n store
      → n ≤ length store → BegunIn s store n → step s f store (Walking c h at) ≡ steps_to Spent (InStep c n) store
  kept_step f {c} {h} {at} {n} right p same fits begun =
      let here : length (ahead s f store h at) ≡ n = ap length same ∙ length-take-le n store fits in
      let e = keeps_on s f store (walking_turn s f store ok right room c p) (rw (here, same) begun) in
      let back : ahead s f store h at ++ drop (length (ahead s f store h at)) store ≡ store = rw (here, same) (take-append-drop n store) in
      e ∙ ap₂ (λ m st. steps_to Spent (InStep c m) st) here back

  led_kept : (f : List ℕ) {c h at n : ℕ} → AllOctets f → length f ≡ frame_length s → Place s store h at → Reached s (Walking c h at) store
      → ahead s f store h at ≡ take n store → n ≤ length store → BegunIn s store n → Reached s (InStep c n) store
  unfolding is_entered
  led_kept f f-small right p d same fits begun =
      subst (λ (w : Stepped). Reached s w.next w.store) (kept_step f right p same fits begun) (led_step f f-small right refl d)

  -- from nothing, a frame leads where its pointer says
  from_fresh : (c p : ℕ) (z : List ℕ) → AllOctets z → Framed s c p z (framed s c p z) → Reached s (set_out s c p astray) store
  unfolding enter step_of reason_of lost_since reason_in stands_for is_entered
  from_fresh c p z z-small r = rw (r.its_count, r.its_pointer) at (led_in {x = Fresh} c p z z-small r refl begins)

  blank_frame : (c p : ℕ) → c < 2 ^ count_width s.link → p < 2 ^ 11 → Used s p → Framed s c p (blank s) (framed s c p (blank s))
  blank_frame c p c-small p-small used = framed_is s c p (blank s) ok c-small p-small (length-replicate s.zone 0) used

  frame_none : (c : ℕ) → c < 2 ^ count_width s.link → Framed s c no_start (blank s) (framed s c no_start (blank s))
  frame_none c c-small = blank_frame c no_start c-small (omega arith) (pointer_beyond s no_start (omega arith))

  frame_idle : (c : ℕ) → c < 2 ^ count_width s.link → Framed s c idle_zone (blank s) (framed s c idle_zone (blank s))
  frame_idle c c-small = blank_frame c idle_zone c-small (omega arith) (pointer_beyond s idle_zone (omega arith))

  led_leaving : (c : ℕ) → c < 2 ^ count_width s.link → Reached s (Leaving c) store
  unfolding set_off
  led_leaving c c-small = from_fresh c no_start (blank s) (all_zeros s.zone) (frame_none c c-small)

  led_end : (c : ℕ) → c < 2 ^ count_width s.link → Reached s (Walking c 0 s.zone) store
  unfolding set_off
  led_end c c-small = from_fresh c idle_zone (blank s) (all_zeros s.zone) (frame_idle c c-small)

  led_inside : (c p : ℕ) (z : List ℕ) → AllOctets z → p < s.zone → Framed s c p z (framed s c p z) → Reached s (Walking c 0 p) store
  unfolding set_off
  led_inside c p z z-small low r =
      let not_idle : eqb p idle_zone ≡ false = ne_eqb p idle_zone (omega (arith, settled s ok)) in
      let not_none : eqb p no_start ≡ false = ne_eqb p no_start (omega (arith, settled s ok)) in
      rw (not_idle, not_none) at (from_fresh c p z z-small r)

  led_astray : (c : ℕ) → c < 2 ^ count_width s.link → Reached s (Astray c) store
  unfolding step is_entered
  led_astray c c-small =
      led_step {x = Leaving c} (framed s c no_start (blank s)) (all_framed s c no_start (blank s) (all_zeros s.zone))
      (frame_none c c-small).its_length refl (led_leaving c c-small)

  led_walking : (c at : ℕ) → c < 2 ^ count_width s.link → at ≤ s.zone → Reached s (Walking c 0 at) store
  led_walking c at c-small low =
      test (ltb at s.zone)
      (λ t.
      let lower : at < s.zone = ltb-true at s.zone t in
      led_inside c at (blank s) (all_zeros s.zone) lower (blank_frame c at c-small (omega (arith, settled s ok)) (pointer_inside s at lower)))
      (λ t.
      let end : at ≡ s.zone = omega (arith, ltb-false at s.zone t) in
      rw end (led_end c c-small))

  led_empty : (c : ℕ) → c < 2 ^ count_width s.link → Reached s (InStep c 0) store
  unfolding look unfinished
  led_empty c c-small =
      let r = frame_idle c c-small in
      let f : List ℕ = framed s c idle_zone (blank s) in
      let z : length (zone_of s f) ≡ s.zone = length_zone s f r.its_length in
      let end : drop s.zone (zone_of s f) ≡ [] = drop_of_length-le (zone_of s f) {i = s.zone} (omega arith) in
      led_kept f {h = 0} {at = s.zone} {n = 0} (all_framed s c idle_zone (blank s) (all_zeros s.zone)) r.its_length
      (in_zone {at = s.zone} (omega arith)) (led_end c c-small) end (omega arith) refl

  -- a packet begun that one zone holds
  led_short : (c h : ℕ) → c < 2 ^ count_width s.link → 1 ≤ h → h ≤ s.zone → BegunIn s store h → Reached s (InStep c h) store
  led_short c h c-small some-held fits begun =
      let zeros : List ℕ = replicate (s.zone - h) 0 in
      let held_fits : h ≤ length store = omega (arith, settled s ok) in
      let z : List ℕ = zeros ++ take h store in
      let z-length : length z ≡ s.zone = simp (length-append, length-replicate, length-take-le h store held_fits) (omega arith) in
      let z-small : AllOctets z = all_append zeros (take h store) (all_zeros (s.zone - h)) (all_take h store small) in
      let p : ℕ = s.zone - h in
      let low : p < s.zone = omega arith in
      let r = framed_is s c p z ok c-small (omega (arith, settled s ok)) z-length (pointer_inside s p low) in
      let f : List ℕ = framed s c p z in
      let same : drop p (zone_of s f) ≡ take h store = rw r.its_zone (drop_at zeros (take h store) p (length-replicate p 0)) in
      led_kept f {h = 0} {at = p} {n = h} (all_framed s c p z z-small) r.its_length (in_zone {at = p} (omega arith))
      (led_inside c p z z-small low r) same held_fits begun

  -- a record that holds a packet begun enters a frame whose zone goes on with it
  led_on : (z : List ℕ) (c h p : ℕ) → c < 2 ^ count_width s.link → h ≤ length store → AllOctets z → Framed s c p z (framed s c p z)
      → agreed s (take h store) z ≡ some (p ∷ []) → (p ≡ idle_zone → ⊥)
      → Reached s (InStep (before s c) h) store → Reached s (Walking c h 0) store
  unfolding stands_for is_entered
  led_on z c h p c-small fits z-small r agree not_idle d =
      let f : List ℕ = framed s c p z in
      let here : length (take h store) ≡ h = length-take-le h store fits in
      let e : enter s (stands_for store (InStep (before s c) h)) f ≡ Walking c h 0 =
      enter_held s (take h store) f z c p c-small r agree not_idle ∙ ap (λ n. Walking c n 0) here in
      subst (λ (y : Extractor). Reached s y store) e (led_in {x = InStep (before s c) h} c p z z-small r refl d)

  pub begun_within : (h n : ℕ) → h + n ≤ length store → BegunIn s store (h + n) → BegunIn s store h
  begun_within h n fits begun =
      let joined : take h store ++ take n (drop h store) ≡ take (h + n) store = sym (take-add h n store) in
      let all-length : length (take h store ++ take n (drop h store)) ≡ h + n = ap length joined ∙ length-take-le (h + n) store fits in
      rw (length-take-le h store (omega arith)) at (begun_before s.limit (take h store) (take n (drop h store)) some_room (rw (all-length, joined) begun))

  -- a packet begun, from one that is begun a zone before
  led_longer : (c h : ℕ) → c < 2 ^ count_width s.link → 1 ≤ h → h + s.zone ≤ length store → BegunIn s store (h + s.zone)
      → Reached s (InStep (before s c) h) store → Reached s (InStep c (h + s.zone)) store
  led_longer c h c-small some-held fits begun d =
      let z : List ℕ = take s.zone (drop h store) in
      let held : List ℕ = take h store in
      let held-length : length held ≡ h = length-take-le h store (omega arith) in
      let z-length : length z ≡ s.zone = length-take-le s.zone (drop h store) (simp length-drop (omega arith)) in
      let z-small : AllOctets z = all_take s.zone (drop h store) (all_drop h store small) in
      let joined : held ++ z ≡ take (h + s.zone) store = sym (take-add h s.zone store) in
      let all-length : length (held ++ z) ≡ h + s.zone = ap length joined ∙ length-take-le (h + s.zone) store fits in
      let all-begun : Begun s.limit (held ++ z) = rw (all-length, joined) begun in
      let r = framed_is s c no_start z ok c-small (omega arith) z-length (pointer_beyond s no_start (omega arith)) in
      let f : List ℕ = framed s c no_start z in
      let w = led_on z c h no_start c-small (omega arith) z-small r
      (outlasted_agrees s held z (omega arith) z-length all-begun) (λ none. omega arith) d in
      let held-begun : BegunIn s store h = begun_within h s.zone fits begun in
      let same : ahead s f store h 0 ≡ take (h + s.zone) store = ap (λ y. held ++ y) r.its_zone ∙ joined in
      led_kept f {at = 0} (all_framed s c no_start z z-small) r.its_length (in_packet some-held (omega arith) held-begun) w same fits begun

  -- a packet begun, zone by zone
  led_held : (n c h : ℕ) → h ≤ n → c < 2 ^ count_width s.link → h ≤ length store → BegunIn s store h → Reached s (InStep c h) store
  led_held zero c zero enough c-small fits begun = led_empty c c-small
  led_held zero c (suc h) enough c-small fits begun = absurd (omega arith)
  led_held (suc n) c zero enough c-small fits begun = led_empty c c-small
  led_held (suc n) c (suc h) enough c-small fits begun =
      test (leb (suc h) s.zone)
      (λ t. led_short c (suc h) c-small (omega arith) (leb-true (suc h) s.zone t) begun)
      (λ t.
      let k : ℕ = suc h - s.zone in
      let long : s.zone < suc h = leb-false (suc h) s.zone t in
      let e : suc h ≡ k + s.zone = omega arith in
      let begun' : BegunIn s store (k + s.zone) = rw (← e) begun in
      let some-zone : 1 ≤ s.zone = omega (arith, settled s ok) in
      let earlier : Reached s (InStep (before s c) k) store =
      led_held n (before s c) k (omega arith) (before_on_wheel (count_width s.link) c) (omega arith) (begun_within k s.zone (omega arith) begun') in
      rw e (led_longer c k c-small (omega arith) (omega arith) begun' earlier))

  -- a packet begun before a frame whose zone goes on with it
  led_into : (c h : ℕ) → c < 2 ^ count_width s.link → 1 ≤ h → h ≤ length store → BegunIn s store h → CanGoOn s (take h store) → Reached s (Walking c h 0) store
  led_into c h c-small some-held fits begun (z, z-small, z-length, undamaged) =
      let (p, a) = agrees_with s (take h store) z ok (omega (arith, length-take-le h store fits)) undamaged in
      led_on z c h p c-small fits z-small (framed_is s c p z ok c-small a.short z-length a.used) a.agrees a.not_idle
      (led_held h (before s c) h (omega arith) (before_on_wheel (count_width s.link) c) fits begun)

  pub counted : (c : ℕ) → on_wheel s c ≡ true → c < 2 ^ count_width s.link
  counted c wheel = ltb-true c (2 ^ count_width s.link) wheel

  -- calls lead to every record that passes the test, if what it holds before a zone can go on
  pub reachable_reached : (x : Extractor) → reachable s store x ≡ true → Continues s store x → Reached s x store
  unfolding reachable
  reachable_reached Fresh reach c = begins
  reachable_reached (Astray last) reach c = led_astray last (counted last reach)
  reachable_reached (InStep last zero) reach c = led_empty last (counted last (and_true (on_wheel s last) _ reach).0)
  reachable_reached (InStep last (suc h)) reach c =
      let a = and_true (on_wheel s last) _ reach in
      let (fits, begun) = holds_packet s store h a.1 in
      led_held (suc h) last (suc h) (omega arith) (counted last a.0) fits begun
  reachable_reached (Walking last zero at) reach c =
      let a = and_true (on_wheel s last) _ reach in
      led_walking last at (counted last a.0) (leb-true at s.zone a.1)
  reachable_reached (Walking last (suc h) at) reach c =
      let a = and_true (on_wheel s last) _ reach in
      let b = and_true (eqb at 0) (holds_well s store (suc h)) (rw (eqb-suc-zero h) at a.1) in
      let (fits, begun) = holds_packet s store h b.1 in
      rw (eqb-true at 0 b.0) (led_into last (suc h) (counted last a.0) (omega arith) fits begun c)
  reachable_reached (Leaving last) reach c = led_leaving last (counted last reach)

-- over a store of octets, the records that calls lead to are those that pass the test and whose octets held can go on
pub reached_exactly : (s : Settings) (x : Extractor) (store : List ℕ) → in_range s ≡ true → s.limit ≤ length store → AllOctets store
    → Reached s x store ↔ ((reachable s store x ≡ true) × Continues s store x)
reached_exactly s x store ok room small = (
  (λ r. ((reached_sound r).reach, (reached_sound r).goes_on)),
  (λ p. reachable_reached s store ok room small x p.0 p.1),
)
