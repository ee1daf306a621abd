-- One step from an entered record: what it does, whatever frame of the right length it is lent.
-- Assumes nothing.
use mathlib.Core.Path.{◌≡◌, refl, sym, ap, ◌∙◌}
use mathlib.Core.List.{List, ◌++◌}
use mathlib.Core.Bool.{Bool, true}
use Prim.Native.Nat.{ℕ, ◌+◌, ◌-◌, ◌≤◌, ◌<◌}
use native.Mathlib.Nat.{zero-add}
use native.Mathlib.Omega.{arith}
use lib.ListN.{length, take, drop, length-append, length-drop}
use lib.Seq.{length-take-le, take_at, drop-drop, take-append-add, drop-append-add}
use lib.Dec.{leb}
use borrow.Author.Tests.{ltb-true, leb-true, leb-false, lt-ltb, le-leb, ne_eqb}
use Rattle.octets.specs.Basics.{part_of, over}
use Rattle.octets.proofs.Choices.{apart}
use Rattle.octets.proofs.Fronts.{over_front, length-front-over, drop-front-over}
use Rattle.octets.proofs.Tests.{test}
use Rattle.packets.specs.Packet.{Look, more, damaged, whole, look, is_idle}
use Rattle.packets.proofs.Begun.{damaged_some, damaged-append, more_short, more_then_whole}
use Rattle.packets.proofs.Grown.{look-append, look_bounds}
use Rattle.frames.specs.Frame.{in_range, frame_length, zone_of}
use Rattle.frames.specs.Link.{zone_at}
use Rattle.frames.specs.declared.Settings.{Settings}
use Rattle.frames.proofs.Accepted.{zone_part, length_zone}
use Rattle.frames.proofs.Settled.{settled}
use Rattle.extractor.specs.Records.{unfinished, reachable, is_entered, Stepped, steps_to, kept_for_later, handed_over, step_look, step, shown}
use Rattle.extractor.specs.declared.Extractor.{Extractor}
use Rattle.extractor.specs.declared.Extractor.TheVariants.{Fresh, Astray, InStep, Walking, Leaving}
use Rattle.extractor.specs.Found.{Found, InFrame, InStore, Damaged, Spent}
use Rattle.extractor.proofs.Places.{Begun, Place, in_zone, in_packet, place, place_held, ahead}

-- an answer that a packet is handed over, idle or not
pub data Packed : Found → Bool → Type 0 where
  framed : {start size : ℕ} {idle : Bool} → Packed (InFrame start size idle) idle
  stored : {size : ℕ} {idle : Bool} → Packed (InStore size idle) idle

-- what a step from an entered record does
pub data Turn (s : Settings) (f store : List ℕ) : Extractor → Stepped → Type 0 where
  leave : {last : ℕ} → Turn s f store (Leaving last) (steps_to Spent (Astray last) store)
  keep : {last h at : ℕ} → Begun s.limit (ahead s f store h at) → length (ahead s f store h at) ≤ s.limit
      → Turn s f store (Walking last h at)
      (steps_to Spent (InStep last (length (ahead s f store h at)))
      (ahead s f store h at ++ drop (length (ahead s f store h at)) store))
  break : {last h at d : ℕ} → look s.limit (ahead s f store h at) ≡ damaged d → at < s.zone
      → Turn s f store (Walking last h at) (steps_to (Damaged d) (Leaving last) store)
  give : {last h at next l : ℕ} {a : Found} {st : List ℕ} → Packed a (is_idle (take l (ahead s f store h at)))
      → look s.limit (ahead s f store h at) ≡ whole l → l ≤ length (ahead s f store h at)
      → shown f st a ≡ take l (ahead s f store h at)
      → drop next (zone_of s f) ≡ drop l (ahead s f store h at)
      → at < next → next ≤ s.zone
      → length st ≡ length store → drop s.limit st ≡ drop s.limit store
      → Turn s f store (Walking last h at) (steps_to a (Walking last 0 next) st)

-- a part at the front of a store
in_store : (st : List ℕ) (l : ℕ) → l ≤ length st → part_of st 0 l ≡ take l st
unfolding part_of
in_store st l h = rw (le-leb (0 + l) (length st) (omega arith)) refl

-- a packet that is begun ends after what is held of it
begun_ends_later : (limit : ℕ) (xs ys : List ℕ) (l : ℕ) → 1 ≤ limit → Begun limit xs → look limit (xs ++ ys) ≡ whole l → length xs < l
unfolding unfinished
begun_ends_later limit xs ys l room begun e = go (look limit xs) refl
  where
    go : (r : Look) → look limit xs ≡ r → length xs < l
    go more m = more_then_whole limit xs ys room m e
    go (damaged d) m = apart (cc (damaged-append limit xs ys room m))
    go (whole k) m =
        let same : k ≡ l = cc (look-append limit xs ys room m) in
        omega (arith, ltb-true (length xs) k (rw m at begun))

module _ (s : Settings) (f store : List ℕ) (ok : in_range s ≡ true) (right : length f ≡ frame_length s) (room : s.limit ≤ length store) where
  some_room : 1 ≤ s.limit
  some_room = omega (arith, settled s ok)

  length_ahead : {h at : ℕ} → Place s store h at → length (ahead s f store h at) ≡ h + length (drop at (zone_of s f))
  length_ahead {h} p = simp (length-append, length-take-le h store (place_held p))

  kept_turn : (last : ℕ) {h at : ℕ} → Place s store h at → Begun s.limit (ahead s f store h at)
      → length (ahead s f store h at) ≤ s.limit
      → Turn s f store (Walking last h at) (kept_for_later store last h (drop at (zone_of s f)))
  kept_turn last {h} {at} p begun fits =
      rw (← length_ahead p, over_front store h (drop at (zone_of s f)) (place_held p)) (keep begun fits)

  -- the zone's octets lie in the frame behind its headers
  in_frame : (at l : ℕ) → at + l ≤ s.zone → part_of f (zone_at s.link + at) l ≡ take l (drop at (zone_of s f))
  unfolding part_of frame_length
  in_frame at l h =
      rw (le-leb (zone_at s.link + at + l) (length f) (omega arith)) (sym (zone_part s f right at l h))

  given_turn : (last : ℕ) {h at : ℕ} (l : ℕ) → Place s store h at
      → look s.limit (ahead s f store h at) ≡ whole l → l ≤ length (ahead s f store h at)
      → Turn s f store (Walking last h at) (handed_over s store last h at (drop at (zone_of s f)) l)
  unfolding handed_over shown
  given_turn last l (in_zone {at} low) e fits =
      let z = length_zone s f right in
      let bounds = look_bounds s.limit (drop at (zone_of s f)) some_room e in
      let rest : length (drop at (zone_of s f)) ≡ s.zone - at = simp length-drop (omega arith) in
      give {h = 0} {at = at} {next = at + l} {st = store}
      (framed {start = zone_at s.link + at} {size = l} {idle = is_idle (take l (drop at (zone_of s f)))}) e fits
      (in_frame at l (omega arith)) (sym (drop-drop l at (zone_of s f))) (omega arith) (omega arith) refl refl
  given_turn last l (in_packet {h} some-held held begun) e fits =
      let z : List ℕ = zone_of s f in
      let here : length z ≡ s.zone = length_zone s f right in
      let held-length : length (take h store) ≡ h = length-take-le h store held in
      let later : h < l = omega (arith, begun_ends_later s.limit (take h store) z l some_room (rw held-length begun) e) in
      let bounds = look_bounds s.limit (take h store ++ z) some_room e in
      let total : l ≡ length (take h store) + (l - h) = omega arith in
      let rest : l - h ≤ length z = omega (arith, length-append (take h store) z) in
      let packet : List ℕ = take h store ++ take (l - h) z in
      let packet-is : packet ≡ take l (take h store ++ z) =
      sym (ap (λ n. take n (take h store ++ z)) total ∙ take-append-add (take h store) z (l - h)) in
      let packet-length : length packet ≡ l =
      length-append (take h store) (take (l - h) z) ∙ ap (λ n. length (take h store) + n) (length-take-le (l - h) z rest) ∙ sym total in
      let st : List ℕ = packet ++ drop (length packet) store in
      let written : over store h (take (l - h) z) ≡ st = over_front store h (take (l - h) z) held in
      let same : length st ≡ length store = length-front-over packet store (omega arith) in
      let seen : part_of st 0 l ≡ take l (take h store ++ z) = in_store st l (omega arith) ∙ take_at packet (drop (length packet) store) l packet-length ∙ packet-is in
      let left : drop (0 + (l - h)) z ≡ drop l (take h store ++ z) =
      ap (λ n. drop n z) (zero-add (l - h)) ∙ sym (ap (λ n. drop n (take h store ++ z)) total ∙ drop-append-add (take h store) z (l - h)) in
      rw (ne_eqb h 0 (omega arith), written)
      (give {h = h} {at = 0} {next = 0 + (l - h)} {st = st} (stored {size = l} {idle = is_idle (take l (take h store ++ z))}) e fits
      seen left (omega arith) (omega arith) same (drop-front-over packet store s.limit (omega arith)))

  -- damage needs an octet of the zone
  broken_before_end : {h at d : ℕ} → Place s store h at → look s.limit (ahead s f store h at) ≡ damaged d → at < s.zone
  broken_before_end (in_packet some-held held begun) e = omega (arith, settled s ok)
  broken_before_end (in_zone {at} low) e =
      omega (arith, damaged_some s.limit (drop at (zone_of s f)) e, length-drop at (zone_of s f), length_zone s f right)

  pub walking_turn : (last : ℕ) {h at : ℕ} → Place s store h at → Turn s f store (Walking last h at) (step s f store (Walking last h at))
  unfolding step step_look unfinished
  walking_turn last {h} {at} p = go (look s.limit os) refl
    where
      os : List ℕ
      os = ahead s f store h at

      rest : List ℕ
      rest = drop at (zone_of s f)

      go : (r : Look) → look s.limit os ≡ r → Turn s f store (Walking last h at) (step_look s store last h at rest r)
      go more e = kept_turn last p (rw e) (omega (arith, more_short s.limit os some_room e, settled s ok))
      go (damaged d) e = break e (broken_before_end p e)
      go (whole l) e =
          test (leb l (h + length rest))
          (λ t. rw t (given_turn last l p e (omega (arith, leb-true, length_ahead p))))
          (λ t.
          let later : length os < l = omega (arith, leb-false l (h + length rest) t, length_ahead p) in
          rw t (kept_turn last p (rw e (lt-ltb (length os) l later)) (omega (arith, look_bounds s.limit os some_room e))))

  pub turn : (x : Extractor) → reachable s store x ≡ true → is_entered x ≡ true → Turn s f store x (step s f store x)
  unfolding is_entered step
  turn Fresh reach entered = apart (cc)
  turn (Astray last) reach entered = apart (cc)
  turn (InStep last h) reach entered = apart (cc)
  turn (Walking last h at) reach entered = walking_turn last (place s store last h at reach)
  turn (Leaving last) reach entered = leave
