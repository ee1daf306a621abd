-- A step of a walk, case by case, with the zone's octets as they lie in the frame.
-- Assumes nothing.
use mathlib.Core.Path.{◌≡◌, refl, sym, ap, ap₂, subst, ◌∙◌}
use mathlib.Core.List.{List, [], ◌∷◌, ◌++◌}
use mathlib.Core.Logic.{◌⊎◌, inl, inr}
use mathlib.Core.Bool.{Bool}
use Prim.Native.Nat.{ℕ, zero, suc, ◌+◌, ◌-◌, ◌≤◌, ◌<◌}
use native.Mathlib.Nat.{sub-zero, zero-sub, suc-sub-suc}
use native.Mathlib.Omega.{arith}
use lib.ListN.{length, take, drop, length-append}
use lib.Seq.{take-take, take-nil, take-append-add, drop-nil, drop-drop, length-take-le}
use lib.Dec.{ltb}
use borrow.Author.Tests.{le-leb, lt-leb, ltb-true, ltb-false, eq-eqb, ne_eqb}
use Rattle.octets.specs.Basics.{over}
use Rattle.octets.proofs.Choices.{apart}
use Rattle.octets.proofs.Tests.{test}
use Rattle.octets.proofs.Written.{length_run, over-take}
use Rattle.packets.specs.Packet.{whole, look, is_idle}
use Rattle.packets.specs.Header.{seen}
use Rattle.packets.specs.Damage.{damage_number}
use Rattle.packets.specs.declared.damage.Damage.{Damage}
use Rattle.packets.specs.declared.Seen.{Seen}
use Rattle.packets.specs.declared.Seen.TheVariants.{More, Whole}
use Rattle.packets.proofs.Grown.{look_bounds}
use Rattle.packets.proofs.Begun.{more_short, idle_begun}
use Rattle.frames.specs.Frame.{zone_of, frame_length}
use Rattle.frames.specs.declared.Settings.{Settings}
use Rattle.frames.proofs.Settled.{settled}
use Rattle.extractor.specs.Records.{step, step_look, handed_over, steps_to, kept_for_later}
use Rattle.extractor.specs.Walks.{at_hand, Walks, at_rest}
use Rattle.extractor.specs.declared.Extractor.{Extractor}
use Rattle.extractor.specs.declared.Extractor.TheVariants.{Fresh, Astray, InStep, Walking, Leaving}
use Rattle.extractor.specs.Found.{InFrame, InStore, Damaged, Spent}

drop-take : (a n : ℕ) (l : List ℕ) → drop a (take n l) ≡ take (n - a) (drop a l)
drop-take zero n l = ap (λ (k : ℕ). take k l) (sym (sub-zero n))
drop-take (suc a) zero l = drop-nil (suc a) ∙ ap (λ (k : ℕ). take k (drop (suc a) l)) (sym (zero-sub (suc a)))
drop-take (suc a) (suc n) [] = sym (take-nil (suc n - suc a))
drop-take (suc a) (suc n) (x ∷ l) = drop-take a n l ∙ ap (λ (k : ℕ). take k (drop a l)) (sym (suc-sub-suc n a))

-- what is at hand says of the length that was read
hand_more : (n : ℕ) (r : Seen) → at_hand n r ≡ More → (r ≡ More) ⊎ ((l : ℕ) × (r ≡ Whole l) × (n < l))
unfolding at_hand
hand_more n More e = inl refl
hand_more n (Seen.Damaged d) e = apart (cc)
hand_more n (Whole l) e = test (ltb n l) (λ t. inr (l, refl, ltb-true n l t)) (λ t. absurd (longer (rw t at e)))
  where
    longer : Whole l ≡ More → ⊥
    longer e = apart (cc)

hand_damaged : (n : ℕ) (r : Seen) {d : Damage} → at_hand n r ≡ Seen.Damaged d → r ≡ Seen.Damaged d
unfolding at_hand
hand_damaged n More e = e
hand_damaged n (Seen.Damaged d) e = e
hand_damaged n (Whole l) {d} e = test (ltb n l) (λ t. absurd (other (rw t at e))) (λ t. rw t at e)
  where
    other : More ≡ Seen.Damaged d → ⊥
    other e = apart (cc)

hand_whole : (n : ℕ) (r : Seen) {l : ℕ} → at_hand n r ≡ Whole l → (r ≡ Whole l) × (l ≤ n)
unfolding at_hand
hand_whole n More e = apart (cc)
hand_whole n (Seen.Damaged d) e = apart (cc)
hand_whole n (Whole k) {l} e =
    test (ltb n k) (λ t. absurd (other (rw t at e)))
    (λ t. let same : Whole k ≡ Whole l = rw t at e in (same, its_own same (ltb-false n k t)))
  where
    other : More ≡ Whole l → ⊥
    other e = apart (cc)

    its_own : Whole k ≡ Whole l → k ≤ n → l ≤ n
    its_own e h = let same : k ≡ l = cc in rw (← same) h

-- the zone's octets from `at`, where they lie in the frame
abbrev pub left : Settings → ℕ → List ℕ → List ℕ
left s at f = take (8 + s.zone - (8 + at)) (drop (8 + at) f)

pub zone_left : (s : Settings) (at : ℕ) (f : List ℕ) → drop at (zone_of s f) ≡ left s at f
unfolding zone_of
zone_left s at f =
    let e : s.zone - at ≡ 8 + s.zone - (8 + at) = omega arith in
    drop-take at s.zone (drop 8 f) ∙ ap (take (s.zone - at)) (drop-drop at 8 f) ∙ ap (λ (n : ℕ). take n (drop (8 + at) f)) e

-- the numbers of a walk
pub record Plain (s : Settings) (h at : ℕ) (store f : List ℕ) : Type 0 where
  pub least : 7 ≤ s.limit
  pub room : s.limit ≤ length store
  pub small : s.zone ≤ 2046
  pub inside : at ≤ s.zone
  pub holds : h ≤ length store
  pub long : 8 + s.zone ≤ length f

pub plain : {s : Settings} {h at : ℕ} {store f : List ℕ} → Walks s h at store f → Plain s h at store f
unfolding frame_length
plain {s} w =
    let r = settled s w.ranged in
    record { least = r.limit_least; room = w.room; small = r.zone_most; inside = w.inside; holds = w.holds; long = omega (arith, w.framed) }

module _ {s : Settings} {h at : ℕ} {store f : List ℕ} (w : Walks s h at store f) (last : ℕ) where
  pub length-left : length (left s at f) ≡ 8 + s.zone - (8 + at)
  length-left = length_run f (8 + at) (8 + s.zone - (8 + at)) (omega (arith, plain w))

  -- the octets held, and those after them
  abbrev both : List ℕ
  both = take h store ++ left s at f

  length_both : length both ≡ h + (8 + s.zone - (8 + at))
  length_both = length-append (take h store) (left s at f) ∙ ap₂ ◌+◌ (length-take-le h store w.holds) length-left

  some_room : 1 ≤ s.limit
  some_room = omega (arith, plain w)

  module _ (r : Seen) (told : seen r ≡ look s.limit both) where
    at_look : step s f store (Walking last h at) ≡ step_look s store last h at (left s at f) (seen r)
    unfolding step
    at_look = rw (told, zone_left s at f) refl

    step_more : r ≡ More → kept_for_later store last h (left s at f) ≡ step s f store (Walking last h at)
    unfolding seen step_look
    step_more q = sym (at_look ∙ ap (λ (x : Seen). step_look s store last h at (left s at f) (seen x)) q)

    step_damaged : {d : Damage} → r ≡ Seen.Damaged d → steps_to (Damaged (damage_number d)) (Leaving last) store ≡ step s f store (Walking last h at)
    unfolding seen step_look
    step_damaged q = sym (at_look ∙ ap (λ (x : Seen). step_look s store last h at (left s at f) (seen x)) q)

    more_room : r ≡ More → h + (8 + s.zone - (8 + at)) ≤ length store
    unfolding seen
    more_room q = omega (arith, more_short s.limit both some_room (sym told ∙ ap seen q), length_both, plain w)

    module _ {l : ℕ} (q : r ≡ Whole l) where
      its_length : seen r ≡ whole l
      unfolding seen
      its_length = ap seen q

      pub whole_limit : l ≤ s.limit
      whole_limit = (look_bounds s.limit both some_room (sym told ∙ its_length)).1

      step_later : h + (8 + s.zone - (8 + at)) < l → kept_for_later store last h (left s at f) ≡ step s f store (Walking last h at)
      unfolding step_look
      step_later k =
          sym (at_look ∙ ap (step_look s store last h at (left s at f)) its_length
          ∙ rw (lt-leb l (h + length (left s at f)) (omega (arith, length-left))) refl)

      module _ (k : l ≤ h + (8 + s.zone - (8 + at))) where
        -- its last octets lie in the zone, and have room behind those held
        pub laid_fits : (l - h ≤ length (left s at f)) × (h + (l - h) ≤ length store)
        laid_fits = (omega (arith, length-left, k), omega (arith, whole_limit, plain w))

        handed : handed_over s store last h at (left s at f) l ≡ step s f store (Walking last h at)
        unfolding step_look
        handed =
            sym (at_look ∙ ap (step_look s store last h at (left s at f)) its_length
            ∙ rw (le-leb l (h + length (left s at f)) (omega (arith, length-left))) refl)

        -- octets that begin with the packet are idle as it is
        its_mark : (ys : List ℕ) → take l ys ≡ take l both → is_idle ys ≡ is_idle (take l both)
        its_mark ys same = idle_begun s.limit both ys some_room (sym told ∙ its_length) (omega (arith, length_both)) same

        -- a packet that lies in the frame
        pub step_frame : (idle : Bool) → h ≡ 0 → idle ≡ is_idle (left s at f)
            → steps_to (InFrame (8 + at) l idle) (Walking last 0 (at + l)) store ≡ step s f store (Walking last h at)
        unfolding handed_over
        step_frame idle none i =
            let alone : left s at f ≡ both = rw none refl in
            let mark : idle ≡ is_idle (take l both) = i ∙ its_mark (left s at f) (ap (take l) alone) in
            rw mark (rw (eq-eqb h 0 none) at handed)

        -- a packet whose last octets are laid after those held
        pub step_laid : (n : ℕ) (st : List ℕ) (idle : Bool) → (h ≡ 0 → ⊥) → n ≡ at + (l - h) → st ≡ over store h (take (l - h) (left s at f)) → idle ≡ is_idle st
            → steps_to (InStore l idle) (Walking last 0 n) st ≡ step s f store (Walking last h at)
        unfolding handed_over
        step_laid n st idle some m written i =
            let mark : idle ≡ is_idle (take l both) = i ∙ its_mark st (ap (take l) written ∙ packet_laid) in
            rw (mark, m, written) (rw (ne_eqb h 0 some) at handed)
          where
            held : length (take h store) ≡ h
            held = length-take-le h store w.holds

            added : length (take (l - h) (left s at f)) ≡ l - h
            added = length-take-le (l - h) (left s at f) (omega (arith, length-left))

            -- the store then begins with the packet
            packet_laid : take l (over store h (take (l - h) (left s at f))) ≡ take l both
            packet_laid =
                let os : List ℕ = over store h (take (l - h) (left s at f)) in
                let front : take (h + (l - h)) os ≡ take (h + (l - h)) both =
                subst (λ (n : ℕ). take (h + n) os ≡ take h store ++ take (l - h) (left s at f)) added (over-take store h (take (l - h) (left s at f)) w.holds)
                ∙ sym (subst (λ (n : ℕ). take (n + (l - h)) both ≡ take h store ++ take (l - h) (left s at f)) held (take-append-add (take h store) (left s at f) (l - h))) in
                sym (take-take l (h + (l - h)) os (omega arith)) ∙ ap (take l) front ∙ take-take l (h + (l - h)) both (omega arith)

    -- by the octets that are at hand: those held, and the zone's from `at`
    module _ {n : ℕ} (many : n ≡ h + (8 + s.zone - (8 + at))) {there : Seen} (cut : there ≡ at_hand n r) where
      pub step_torn : {d : Damage} → there ≡ Seen.Damaged d → steps_to (Damaged (damage_number d)) (Leaving last) store ≡ step s f store (Walking last h at)
      step_torn q = step_damaged (hand_damaged n r (sym cut ∙ q))

      pub step_kept : there ≡ More → kept_for_later store last h (left s at f) ≡ step s f store (Walking last h at)
      step_kept q = by (hand_more n r (sym cut ∙ q))
        where
          by : (r ≡ More) ⊎ ((l : ℕ) × (r ≡ Whole l) × (n < l)) → kept_for_later store last h (left s at f) ≡ step s f store (Walking last h at)
          by (inl e) = step_more e
          by (inr (l, e, k)) = step_later e (omega (arith, many, k))

      pub kept_room : there ≡ More → h + (8 + s.zone - (8 + at)) ≤ length store
      kept_room q = by (hand_more n r (sym cut ∙ q))
        where
          by : (r ≡ More) ⊎ ((l : ℕ) × (r ≡ Whole l) × (n < l)) → h + (8 + s.zone - (8 + at)) ≤ length store
          by (inl e) = more_room e
          by (inr (l, e, k)) = omega (arith, many, k, whole_limit e, plain w)

      pub whole_there : {l : ℕ} → there ≡ Whole l → (r ≡ Whole l) × (l ≤ h + (8 + s.zone - (8 + at)))
      whole_there {l} q = let (e, k) = hand_whole n r (sym cut ∙ q) in (e, omega (arith, many, k))

-- a record that is not walked is spent
pub rested : (s : Settings) (f store : List ℕ) (x : Extractor) → ((last h at : ℕ) → x ≡ Walking last h at → ⊥) → steps_to Spent (at_rest x) store ≡ step s f store x
unfolding step
rested s f store Fresh other = refl
rested s f store (Astray last) other = refl
rested s f store (InStep last h) other = refl
rested s f store (Walking last h at) other = absurd (other last h at refl)
rested s f store (Leaving last) other = refl
