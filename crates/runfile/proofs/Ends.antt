-- A reader takes no more records than a run may have, however long the input is.
-- Assumes nothing.
use mathlib.Core.Path.{◌≡◌, refl}
use mathlib.Core.List.{List}
use mathlib.Core.Bool.{Bool, true, false, not}
use Prim.Native.Nat.{ℕ, ◌+◌, ◌-◌, ◌<◌}
use native.Mathlib.Omega.{arith}
use lib.ListN.{length}
use lib.Dec.{ltb, eqb}
use borrow.Author.Tests.{ltb-true}
use Rattle.octets.specs.Basics.{pick, and}
use Rattle.octets.proofs.Choices.{and_true}
use Rattle.frames.specs.Frame.{frame_length, most_frames}
use Rattle.frames.specs.declared.Settings.{Settings}
use Rattle.runfile.specs.RunFile.{setup_length, setup_of, fits}
use Rattle.runfile.specs.Steps.{next_record, reachable, taken}
use Rattle.runfile.specs.declared.Progress.{Progress}
use Rattle.runfile.specs.declared.Progress.TheVariants.{Start, Running, Ended, Bad}

-- so many records it may still take, the one that is bad among them
unfoldable pub left : Progress → ℕ
left Start = most_frames + 3
left (Running s n) = most_frames - n + 2
left (Ended n) = 1
left (Bad n) = 0

-- each record that it takes is one less
after_setup : (s : Settings) (t : Bool) → left (pick t (Running s 0) (Bad 0)) < left Start
unfolding left
after_setup s true = omega arith
after_setup s false = omega arith

after_next : (s : Settings) (n k : ℕ) (unled frame end : Bool) → (frame ≡ true → n < most_frames)
    → left (pick unled (Bad k) (pick frame (Running s (n + 1)) (pick end (Ended n) (Bad k)))) < left (Running s n)
unfolding left
after_next s n k true frame end h = omega arith
after_next s n k false true end h = omega (arith, h refl)
after_next s n k false false true h = omega arith
after_next s n k false false false h = omega arith

pub taken_left : (r : Progress) (kind : ℕ) (body : List ℕ) → 0 < left r → left (taken r kind body) < left r
unfolding left taken next_record
taken_left Start kind body h = after_setup (setup_of body) (and (eqb kind 1) (and (eqb (length body) setup_length) (fits (setup_of body))))
taken_left (Running s n) kind body h =
    let may : Bool = and (ltb n most_frames) (eqb (length body) (frame_length s)) in
    after_next s n (n + 1) (not (reachable (Running s n))) (and (eqb kind 2) may) (and (eqb kind 3) (eqb (length body) 0))
    (λ t. ltb-true n most_frames (and_true (ltb n most_frames) _ (and_true (eqb kind 2) may t).1).0)
taken_left (Ended n) kind body h = omega arith
taken_left (Bad n) kind body h = h
