-- What is heard of a file that is handed to the reader record by record is what the grammar says of its octets.
-- Assumes nothing.
use mathlib.Core.Path.{◌≡◌, refl, sym, ap, subst, ◌∙◌}
use mathlib.Core.List.{List, [], ◌∷◌}
use mathlib.Core.Bool.{Bool, true, false}
use mathlib.Core.Option.{some}
use Prim.Native.Nat.{ℕ, zero, suc, ◌+◌, ◌<◌, ◌≤◌}
use native.Mathlib.Omega.{arith}
use lib.ListN.{length, take, drop, length-drop, length-take}
use lib.Seq.{length-take-le}
use lib.Dec.{leb, eqb}
use borrow.Author.Tests.{lt-ltb, le-ltb, eq-eqb, ne_eqb, le-leb, leb-true, leb-false, eqb-true}
use Rattle.octets.specs.Basics.{and}
use Rattle.frames.specs.Frame.{frame_length, most_frames}
use Rattle.frames.specs.declared.Settings.{Settings}
use Rattle.runfile.specs.RunFile.{setup_length, setup_of, fits, stop, with_setup, with_frame, records, stands, ending, nothing_after, reading}
use Rattle.runfile.specs.Steps.{next_record, reachable, body_length, taken, closed, bad_of, told, heard, heard_of}
use Rattle.runfile.specs.declared.Progress.{Progress}
use Rattle.runfile.specs.declared.Progress.TheVariants.{Start, Running, Ended, Bad}
use Rattle.runfile.proofs.Bounds.{running, setup_no_fill}

-- a bad record ends what is heard
heard_bad : (most : ℕ) (r : Progress) (kind n : ℕ) (os : List ℕ) → taken r kind (take (body_length r kind) os) ≡ Bad n
    → heard (suc most) r (kind ∷ os) ≡ stop (some n)
unfolding heard told
heard_bad most r kind n os e = rw e refl

-- a body that is whole has its length, and one that is cut has not
whole_body : (size : ℕ) (os : List ℕ) → leb size (length os) ≡ true → eqb (length (take size os)) size ≡ true
whole_body size os e = eq-eqb _ _ (length-take-le size os (leb-true size (length os) e))

cut_body : (size : ℕ) (os : List ℕ) → leb size (length os) ≡ false → eqb (length (take size os)) size ≡ false
cut_body size os e =
    ne_eqb (length (take size os)) size (λ h. omega (arith, length-take size os, leb-false size (length os) e))

-- after the end, nothing
heard_ended : (most n : ℕ) (os : List ℕ) → n ≤ most_frames → length os < most → heard most (Ended n) os ≡ stop (nothing_after (n + 2) os)
unfolding heard told taken closed bad_of nothing_after next_record reachable
heard_ended zero n os few h = absurd (omega arith)
heard_ended (suc most) n [] few h = rw (le-leb n most_frames few) refl
heard_ended (suc most) n (k ∷ os) few h = refl

-- where no frame may stand, the end should
records_ending : (most size n : ℕ) (os : List ℕ) → and (stands 2 size os) (leb n most_frames) ≡ false
    → records most size n os ≡ stop (ending n os)
unfolding records
records_ending zero size n os e = refl
records_ending (suc most) size n os e = rw e refl

module _ (s : Settings) (fit : fits s ≡ true) (clear : s.fill ≡ 0) where
  abbrev HeardRunning : ℕ → Type 0
  HeardRunning turns =
      (most n : ℕ) (os : List ℕ) → n ≤ most_frames → length os < turns → length os ≤ most
      → heard turns (Running s n) os ≡ records most (frame_length s) (n + 1) os

  module _ (turns most n : ℕ) (os : List ℕ) (few : n ≤ most_frames) (enough : length os < turns) (room : length os ≤ most) where
    abbrev Next : ℕ → Type 0
    Next kind = heard (suc turns) (Running s n) (kind ∷ os) ≡ records (suc most) (frame_length s) (n + 1) (kind ∷ os)

    stands_here : reachable (Running s n) ≡ true
    stands_here = running s fit clear n few

    -- a frame past the limit, and one that may come: cut, or whole
    past : leb (n + 1) most_frames ≡ false → heard (suc turns) (Running s n) (2 ∷ os) ≡ stop (some (n + 1))
    unfolding body_length taken next_record
    past m =
        heard_bad turns (Running s n) 2 (n + 1) os
        (rw (stands_here, le-ltb n most_frames (omega (arith, leb-false (n + 1) most_frames m))) refl)

    frame : HeardRunning turns → (long may : Bool) → leb (frame_length s) (length os) ≡ long → leb (n + 1) most_frames ≡ may → Next 2
    unfolding records stands ending heard told body_length taken next_record
    frame later true false t m = past m ∙ sym (rw (t, m) refl)
    frame later false false t m = past m ∙ sym (rw t refl)
    frame later false true t m =
        heard_bad turns (Running s n) 2 (n + 1) os
        (rw (stands_here, lt-ltb n most_frames (omega (arith, leb-true (n + 1) most_frames m)), cut_body (frame_length s) os t) refl)
        ∙ sym (rw t refl)
    frame later true true t m =
        let rest : List ℕ = drop (frame_length s) os in
        rw (stands_here, lt-ltb n most_frames (omega (arith, leb-true (n + 1) most_frames m)), t, m, whole_body (frame_length s) os t)
        (ap (with_frame (take (frame_length s) os))
        (later most (n + 1) rest (leb-true (n + 1) most_frames m) (rw length-drop (omega arith)) (rw length-drop (omega arith))))

    end : Next 3
    unfolding stands ending heard told body_length taken
    end =
        rw stands_here
        (heard_ended turns n os few enough
        ∙ sym (records_ending (suc most) (frame_length s) (n + 1) (3 ∷ os) refl
        ∙ rw (le-leb 0 (length os) (omega arith)) (ap (λ (m : ℕ). stop (nothing_after m os)) (omega arith))))

    -- neither a frame nor the end
    other : (kind : ℕ) → eqb kind 2 ≡ false → eqb kind 3 ≡ false → Next kind
    unfolding stands ending body_length taken next_record
    other kind f g =
        heard_bad turns (Running s n) kind (n + 1) os (rw (stands_here, f, g) refl)
        ∙ sym (records_ending (suc most) (frame_length s) (n + 1) (kind ∷ os) (rw f refl) ∙ rw g refl)

    by_kind : HeardRunning turns → (kind : ℕ) (is-frame is-end : Bool) → eqb kind 2 ≡ is-frame → eqb kind 3 ≡ is-end → Next kind
    by_kind later kind true is-end f g =
        rw (eqb-true kind 2 f) (frame later (leb (frame_length s) (length os)) (leb (n + 1) most_frames) refl refl)
    by_kind later kind false true f g = rw (eqb-true kind 3 g) end
    by_kind later kind false false f g = other kind f g

  heard_running : (turns : ℕ) → HeardRunning turns
  unfolding heard closed bad_of stands ending next_record
  heard_running zero most n os few enough room = absurd (omega arith)
  heard_running (suc turns) most n [] few enough room =
      sym (records_ending most (frame_length s) (n + 1) [] refl)
  heard_running (suc turns) zero n (kind ∷ os) few enough room = absurd (omega arith)
  heard_running (suc turns) (suc most) n (kind ∷ os) few enough room =
      by_kind turns most n os few (omega arith) (omega arith) (heard_running turns) kind (eqb kind 2) (eqb kind 3) refl refl

-- the setup: whole and within the numbers, or not
module _ (os : List ℕ) where
  abbrev settings : Settings
  settings = setup_of (take setup_length os)

  setup : (t fit : Bool) → leb setup_length (length os) ≡ t → fits settings ≡ fit → heard_of (1 ∷ os) ≡ reading (1 ∷ os)
  unfolding heard_of heard told body_length taken reading stands next_record
  setup true true t fit =
      let begun : taken Start 1 (take (body_length Start 1) os) ≡ Running settings 0 = rw (whole_body setup_length os t, fit) refl in
      rw (t, whole_body setup_length os t, fit)
      (ap (λ (r : Progress). with_setup settings (heard (suc (length os)) r (drop setup_length os))) begun
      ∙ ap (with_setup settings)
      (heard_running settings fit (setup_no_fill (take setup_length os)) (suc (length os)) (suc (length os)) 0 (drop setup_length os)
      (omega arith) (rw length-drop (omega arith)) (rw length-drop (omega arith))))
  setup true false t fit = heard_bad (suc (length os)) Start 1 0 os (rw (whole_body setup_length os t, fit) refl) ∙ sym (rw (t, fit) refl)
  setup false fit t e = heard_bad (suc (length os)) Start 1 0 os (rw (cut_body setup_length os t) refl) ∙ sym (rw t refl)

pub heard_is_reading : (os : List ℕ) → heard_of os ≡ reading os
unfolding heard_of heard closed bad_of body_length taken reading stands next_record
heard_is_reading [] = refl
heard_is_reading (k ∷ os) = go (eqb k 1) refl
  where
    go : (t : Bool) → eqb k 1 ≡ t → heard_of (k ∷ os) ≡ reading (k ∷ os)
    go true e =
        subst (λ (kind : ℕ). heard_of (kind ∷ os) ≡ reading (kind ∷ os)) (sym (eqb-true k 1 e))
        (setup os (leb setup_length (length os)) (fits (settings os)) refl refl)
    go false e = heard_bad (suc (length os)) Start k 0 os (rw e refl) ∙ sym (rw e refl)
