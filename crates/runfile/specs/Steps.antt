-- The reader of a run file, record by record, and what is heard of a file that is handed to it so.
use Rattle.std.specs.Prelude.{ℕ, zero, suc, ◌+◌, List, [], ◌∷◌, Bool, true, not, length, take, drop, leb, ltb, eqb}
use Rattle.std.proofs.Math.Option.{Option, none, some}
use Rattle.octets.specs.Basics.{pick, and}
use Rattle.frames.specs.Frame.{frame_length, most_frames}
use Rattle.runfile.specs.RunFile.{setup_length, setup_of, fits, Reading, stop, with_setup, with_frame}
use Rattle.runfile.specs.declared.Progress.{Progress}
use Rattle.runfile.specs.declared.Progress.TheVariants.{Start, Running, Ended, Bad}

-- the number of the record that comes next, from 0, or of the one that was bad
unfoldable pub next_record : Progress → ℕ
next_record Start = 0
next_record (Running s n) = n + 1
next_record (Ended n) = n + 2
next_record (Bad n) = n

-- the record of that number is bad
abbrev pub bad : Progress → Progress
bad r = Bad (next_record r)

-- whether a file can lead to this progress: settings that a setup can give, no more frames than a run may have, and a bad record no later
-- than the first behind the end of the longest run
unfoldable pub reachable : Progress → Bool
reachable Start = true
reachable (Running s n) = and (fits s) (and (eqb s.fill 0) (leb n most_frames))
reachable (Ended n) = leb n most_frames
reachable (Bad n) = leb n (most_frames + 2)

-- so many octets of body the next record has by its kind; none where it is bad
unfoldable pub body_length : Progress → ℕ → ℕ
body_length Start kind = pick (eqb kind 1) setup_length 0
body_length (Running s n) kind = pick (and (reachable (Running s n)) (and (eqb kind 2) (ltb n most_frames))) (frame_length s) 0
body_length (Ended n) kind = 0
body_length (Bad n) kind = 0

-- the progress after a record of this kind and this body
unfoldable pub taken : Progress → ℕ → List ℕ → Progress
taken Start kind body =
    pick (and (eqb kind 1) (and (eqb (length body) setup_length) (fits (setup_of body)))) (Running (setup_of body) 0) (bad Start)
taken (Running s n) kind body =
    pick (not (reachable (Running s n))) (bad (Running s n))
    (pick (and (eqb kind 2) (and (ltb n most_frames) (eqb (length body) (frame_length s)))) (Running s (n + 1))
    (pick (and (eqb kind 3) (eqb (length body) 0)) (Ended n) (bad (Running s n))))
taken (Ended n) kind body = bad (Ended n)
taken (Bad n) kind body = bad (Bad n)

-- the progress when the input has ended: a run that has had its end stays, any other is cut
unfoldable pub closed : Progress → Progress
closed Start = bad Start
closed (Running s n) = bad (Running s n)
closed (Ended n) = pick (reachable (Ended n)) (Ended n) (bad (Ended n))
closed (Bad n) = bad (Bad n)

-- the number of the record that was bad, if one was
unfoldable pub bad_of : Progress → Option ℕ
bad_of Start = none
bad_of (Running s n) = none
bad_of (Ended n) = none
bad_of (Bad n) = some n

-- what a record told that left this progress, before what else is heard
unfoldable pub told : ℕ → List ℕ → Progress → Reading → Reading
told kind body Start later = later
told kind body (Running s n) later = pick (eqb kind 1) (with_setup s later) (with_frame body later)
told kind body (Ended n) later = later
told kind body (Bad n) later = stop (some n)

-- what is heard of octets that are handed over record by record, at most so many: the octet of kind, and then as much of its body as
-- there is, until a record is bad or the input has ended
unfoldable pub heard : ℕ → Progress → List ℕ → Reading
heard zero r os = stop none
heard (suc most) r [] = stop (bad_of (closed r))
heard (suc most) r (kind ∷ os) =
    let size : ℕ = body_length r kind in
    told kind (take size os) (taken r kind (take size os)) (heard most (taken r kind (take size os)) (drop size os))

-- of a whole file: each record takes an octet at least, and the end of the input one turn
unfoldable pub heard_of : List ℕ → Reading
heard_of os = heard (suc (length os)) Start os
