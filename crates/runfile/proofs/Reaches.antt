-- Files lead exactly to the progress that passes the test.
-- Assumes nothing.
use mathlib.Core.Path.{◌≡◌, refl, subst}
use mathlib.Core.List.{List, []}
use mathlib.Core.Bool.{Bool, true, false}
use Prim.Native.Nat.{ℕ, zero, suc, ◌+◌, ◌≤◌, ◌<◌}
use native.Mathlib.Numerals.{add-one}
use native.Mathlib.Omega.{arith}
use lib.ListN.{replicate, length, take, length-replicate}
use lib.Seq.{take_all}
use lib.Dec.{ltb, eqb}
use borrow.Author.Tests.{le-leb, leb-true, lt-ltb, ltb-true, eq-eqb}
use Rattle.octets.specs.Basics.{pick, and, AllOctets, octets}
use Rattle.octets.proofs.Choices.{and_true}
use Rattle.octets.proofs.Fronts.{all_append, all_zeros, all_octets}
use Rattle.frames.specs.Link.{link_in_range}
use Rattle.frames.specs.Frame.{in_range, frame_length, most_frames}
use Rattle.frames.specs.declared.Edition.TheVariants.{Former}
use Rattle.frames.specs.declared.Settings.{Settings}
use Rattle.runfile.specs.RunFile.{setup_length, setup_of, plain, fits, setup_octets}
use Rattle.runfile.specs.Steps.{next_record, reachable, body_length, taken, closed}
use Rattle.runfile.specs.Statements.{Reached, begins, takes, closes, ReachesAll}
use Rattle.runfile.specs.declared.Progress.{Progress}
use Rattle.runfile.specs.declared.Progress.TheVariants.{Start, Running, Ended, Bad}
use Rattle.runfile.proofs.Bounds.{fitting, Standing, standing, running, setup_no_fill}
use Rattle.runfile.proofs.RunFiles.{setup_back}

-- ---- a record, and the end of the input, lead on to progress that passes

bad_passes : (n : ℕ) → n ≤ most_frames + 2 → reachable (Bad n) ≡ true
unfolding reachable
bad_passes n h = le-leb n (most_frames + 2) h

ended_most : (n : ℕ) → reachable (Ended n) ≡ true → n ≤ most_frames
unfolding reachable
ended_most n e = leb-true n most_frames e

after_setup : (s : Settings) (t : Bool) → s.fill ≡ 0 → (t ≡ true → fits s ≡ true) → reachable (pick t (Running s 0) (Bad 0)) ≡ true
after_setup s true clear fit = running s (fit refl) clear 0 (omega arith)
after_setup s false clear fit = bad_passes 0 (omega arith)

after_next : (s : Settings) (n : ℕ) (frame end : Bool) → Standing s n → (frame ≡ true → n < most_frames)
    → reachable (pick frame (Running s (n + 1)) (pick end (Ended n) (Bad (n + 1)))) ≡ true
unfolding reachable
after_next s n true end h more = running s h.settings_fit h.no_fill (n + 1) (omega (arith, more refl))
after_next s n false true h more = le-leb n most_frames h.frames_most
after_next s n false false h more = bad_passes (n + 1) (omega (arith, h.frames_most))

taken_passes : (r : Progress) (kind : ℕ) (body : List ℕ) → reachable r ≡ true → reachable (taken r kind body) ≡ true
unfolding taken next_record
taken_passes Start kind body e =
    let fit : Bool = and (eqb (length body) setup_length) (fits (setup_of body)) in
    after_setup (setup_of body) (and (eqb kind 1) fit) (setup_no_fill body)
    (λ t. (and_true (eqb (length body) setup_length) _ (and_true (eqb kind 1) fit t).1).1)
taken_passes (Running s n) kind body e =
    let may : Bool = and (ltb n most_frames) (eqb (length body) (frame_length s)) in
    rw e
    (after_next s n (and (eqb kind 2) may) (and (eqb kind 3) (eqb (length body) 0)) (standing s n e)
    (λ t. ltb-true n most_frames (and_true (ltb n most_frames) _ (and_true (eqb kind 2) may t).1).0))
taken_passes (Ended n) kind body e = bad_passes (n + 2) (omega (arith, ended_most n e))
taken_passes (Bad n) kind body e = e

closed_passes : (r : Progress) → reachable r ≡ true → reachable (closed r) ≡ true
unfolding closed next_record
closed_passes Start e = bad_passes 0 (omega arith)
closed_passes (Running s n) e = bad_passes (n + 1) (omega (arith, (standing s n e).frames_most))
closed_passes (Ended n) e = rw e e
closed_passes (Bad n) e = e

reached_passes : {r : Progress} → Reached r → reachable r ≡ true
unfolding reachable
reached_passes begins = refl
reached_passes (takes {r} kind os k o h) = taken_passes r kind (take (body_length r kind) os) (reached_passes h)
reached_passes (closes {r} h) = closed_passes r (reached_passes h)

-- ---- and each of them is led to: by a setup, frames of zeros, an end, and one record more

module _ (s : Settings) (fit : fits s ≡ true) (clear : s.fill ≡ 0) where
  setup_small : AllOctets (setup_octets s)
  unfolding setup_octets
  setup_small =
      let l = (fitting s fit).in_numbers.on_link in
      let rest = all_append (octets 2 s.zone) (octets 3 s.limit) (all_octets 2 s.zone) (all_octets 3 s.limit) in
      (omega (arith, l.spacecraft_most), (omega (arith, l.channel_most), rest))

  setup_taken : (b : List ℕ) → length b ≡ setup_length → setup_of b ≡ s → taken Start 1 (take (body_length Start 1) b) ≡ Running s 0
  unfolding taken body_length
  setup_taken b long e = rw (take_all setup_length b (omega arith), eq-eqb (length b) setup_length long, e, fit) refl

  reached_first : Reached (Running s 0)
  unfolding setup_octets octets
  reached_first =
      subst Reached (setup_taken (setup_octets s) refl (setup_back s fit clear)) (takes 1 (setup_octets s) (omega arith) setup_small begins)

  frame_taken : (n : ℕ) (f : List ℕ) → n < most_frames → length f ≡ frame_length s
      → taken (Running s n) 2 (take (body_length (Running s n) 2) f) ≡ Running s (suc n)
  unfolding taken body_length
  frame_taken n f more long =
      rw (
        running s fit clear n (omega arith),
        lt-ltb n most_frames more,
        take_all (frame_length s) f (omega arith),
        eq-eqb (length f) (frame_length s) long,
        add-one n,
      )
      refl

  reached_running : (n : ℕ) → n ≤ most_frames → Reached (Running s n)
  reached_running zero few = reached_first
  reached_running (suc n) few =
      let f : List ℕ = replicate (frame_length s) 0 in
      subst Reached (frame_taken n f (omega arith) (length-replicate (frame_length s) 0))
      (takes 2 f (omega arith) (all_zeros (frame_length s)) (reached_running n (omega arith)))

  end_taken : (n : ℕ) → n ≤ most_frames → taken (Running s n) 3 (take (body_length (Running s n) 3) []) ≡ Ended n
  unfolding taken body_length
  end_taken n few = rw (running s fit clear n few) refl

  reached_ended : (n : ℕ) → n ≤ most_frames → Reached (Ended n)
  reached_ended n few = subst Reached (end_taken n few) (takes 3 [] (omega arith) tt (reached_running n few))

-- the least zone and the least limit
abbrev least : Settings
least = record { link = record { spacecraft = 0; channel = 0; trailed = false; edition = Former }; zone = 1; limit = 7; fill = 0 }

least_fits : fits least ≡ true
unfolding fits plain in_range link_in_range
least_fits = refl

reached_bad : (n : ℕ) → n ≤ most_frames + 2 → Reached (Bad n)
unfolding taken closed next_record
reached_bad zero h = closes begins
reached_bad (suc zero) h = closes (reached_running least least_fits refl 0 (omega arith))
reached_bad (suc (suc n)) h =
    let e : n + 2 ≡ suc (suc n) = omega arith in
    subst (λ (m : ℕ). Reached (Bad m)) e (takes 3 [] (omega arith) tt (reached_ended least least_fits refl n (omega arith)))

passes_reached : (r : Progress) → reachable r ≡ true → Reached r
unfolding reachable
passes_reached Start e = begins
passes_reached (Running s n) e =
    let h = standing s n e in reached_running s h.settings_fit h.no_fill n h.frames_most
passes_reached (Ended n) e = reached_ended least least_fits refl n (leb-true n most_frames e)
passes_reached (Bad n) e = reached_bad n (leb-true n (most_frames + 2) e)

pub reaches_all : ReachesAll
reaches_all r = (reached_passes, passes_reached r)
