-- The judge call by call: over its record, a lent store and a lent frame.
use Rattle.std.specs.Prelude.{ℕ, ◌+◌, ◌*◌, List, [], ◌∷◌, Bool, true, false, not, length, leb, ltb, eqb, Result, Ok, Err}
use Rattle.octets.specs.Basics.{pick, and, first, Row, row}
use Rattle.octets.specs.Refusals.{number_of}
use Rattle.octets.specs.declared.refusals.Refusal.{Refusal}
use Rattle.frames.specs.Frame.{in_range, count, most_frames}
use Rattle.frames.specs.declared.Settings.{Settings}
use Rattle.extractor.specs.Extract.{State, any_torn}
use Rattle.extractor.specs.Records.{reachable, held_in, stands_for, enter}
use Rattle.extractor.specs.Calls.{Finds, through}
use Rattle.extractor.specs.declared.Extractor.{Extractor}
use Rattle.extractor.specs.declared.Extractor.TheVariants.{Fresh, InStep}
use Rattle.judge.specs.Judge.{opened, faulty_entry, Verdict, pass, fault}
use Rattle.judge.specs.declared.Judge.{Judge}
use Rattle.judge.specs.declared.Judge.TheVariants.{Open, Sound, Faulty}
use Rattle.judge.specs.declared.Verdict as declared

-- ---- the records that the rules can reach

-- the frames that a record has seen
abbrev pub tally_of : Judge → ℕ
tally_of Open = 0
tally_of (Sound tally last held) = tally
tally_of (Faulty tally at) = tally

-- its numbers: a frame adds a zone's octets at most to those held, and a fault stands at one of the frames
unfoldable pub counts_well : Settings → Judge → Bool
counts_well s Open = true
counts_well s (Sound tally last held) = and (leb 1 tally) (and (leb tally most_frames) (leb held (tally * s.zone)))
counts_well s (Faulty tally at) = and (ltb at tally) (leb tally most_frames)

-- the extractor's record that goes on from it; a fresh one where nothing is held
abbrev pub extractor_of : Judge → Extractor
extractor_of Open = Fresh
extractor_of (Sound tally last held) = InStep last held
extractor_of (Faulty tally at) = Fresh

-- refusal 10 is given to any other record
unfoldable pub judge_reachable : Settings → List ℕ → Judge → Bool
judge_reachable s store j = and (reachable s store (extractor_of j)) (counts_well s j)

-- what any call is refused for first
abbrev pub checked : Settings → List ℕ → Judge → List Row → List Row
checked s store j rows =
    row 1 (not (in_range s))
    ∷ row 2 (ltb (length store) s.limit)
    ∷ row 10 (not (judge_reachable s store j))
    ∷ rows

-- so many frames more pass the last that a run may have
abbrev pub past_last : Judge → ℕ → Row
past_last j more = row 11 (ltb most_frames (tally_of j + more))

-- what a frame is refused for, in order; what is wrong with the frame itself is a fault
unfoldable pub frame_refusals : Settings → List ℕ → Judge → List Row
frame_refusals s store j = checked s store j (past_last j 1 ∷ [])

-- what closing is refused for, in order
unfoldable pub close_rows : Settings → List ℕ → Judge → List Row
close_rows s store j = checked s store j []

-- ---- a frame

-- a judge's record, and the store beside it
pub record Judging : Type 0 where
  pub next : Judge
  pub store : List ℕ

abbrev pub judging : Judge → List ℕ → Judging
judging j store = record { next = j; store = store }

-- the first fault stands at frame n
abbrev pub faults_at : ℕ → Judge
faults_at n = Faulty (n + 1) n

-- the judge after the steps of frame n, which has the count c: damage is a fault, and else what the steps leave is held
unfoldable pub stepped_through : ℕ → ℕ → Finds → Judging
stepped_through n c t = judging (pick (any_torn t.events) (faults_at n) (Sound (n + 1) c (held_in t.next))) t.store

-- frame n of a run that had no fault before it, entered from this state and stepped until it is spent
unfoldable pub try_frame : Settings → ℕ → State → List ℕ → List ℕ → Judging
try_frame s n x store f =
    pick (faulty_entry s x f)
    (judging (faults_at n) store)
    (stepped_through n (count s f) (through s f (enter s x f) store))

-- the record and the store after a frame
unfoldable pub judge_frame : Settings → List ℕ → Judge → List ℕ → Judging
judge_frame s store Open f = try_frame s 0 opened store f
judge_frame s store (Sound tally last held) f = try_frame s tally (stands_for store (InStep last held)) store f
judge_frame s store (Faulty tally at) f = judging (Faulty (tally + 1) at) store

-- what a call with a frame or a tape answers, with the record and the store that it leaves
pub record JudgeSaid : Type 0 where
  pub refusal : ℕ
  pub next : Judge
  pub store : List ℕ

abbrev pub judge_answers : ℕ → Judging → JudgeSaid
judge_answers n k = record { refusal = n; next = k.next; store = k.store }

-- a refusal leaves record and store as they were
abbrev pub judge_refused : Judge → List ℕ → ℕ → JudgeSaid
judge_refused j store n = judge_answers n (judging j store)

-- what an answer says, where this was the record before
abbrev pub judge_says : Judge → Result Judge Refusal → List ℕ → JudgeSaid
judge_says j (Err refusal) store = judge_refused j store (number_of refusal)
judge_says j (Ok next) store = judge_answers 0 (judging next store)

-- a refusal, or what a call leaves that no row refuses
abbrev pub unless_refused : List Row → List ℕ → Judge → Judging → JudgeSaid
unless_refused rows store j k =
    let n : ℕ = first rows in
    pick (eqb n 0) (judge_answers 0 k) (judge_refused j store n)

-- a kind of call: over settings, store and record, and the octets that are handed over
abbrev pub Calling : Type 0
Calling = Settings → List ℕ → Judge → List ℕ → JudgeSaid

-- what the rules give
unfoldable pub frame_call : Calling
frame_call s store j f = unless_refused (frame_refusals s store j) store j (judge_frame s store j f)

-- ---- the close

-- the verdict that a record comes to
unfoldable pub judge_close : Judge → Verdict
judge_close Open = pass
judge_close (Sound tally last held) = pick (eqb held 0) pass (fault tally)
judge_close (Faulty tally at) = fault at

-- what closing answers: whether it is accepted; its refusal, or 0; whether the run passes, and where its fault stands, 0 where
-- there is none
pub record CloseSaid : Type 0 where
  pub accepted : Bool
  pub refusal : ℕ
  pub passes : Bool
  pub at : ℕ

-- closing that is refused by n
abbrev pub close_refused : ℕ → CloseSaid
close_refused n = record { accepted = false; refusal = n; passes = false; at = 0 }

unfoldable pub close_says : Result declared.Verdict Refusal → CloseSaid
close_says (Err refusal) = close_refused (number_of refusal)
close_says (Ok declared.Verdict.Pass) = record { accepted = true; refusal = 0; passes = true; at = 0 }
close_says (Ok (declared.Verdict.Fault k)) = record { accepted = true; refusal = 0; passes = false; at = k }

-- a verdict as an answer
unfoldable pub closes_with : Verdict → Result declared.Verdict Refusal
closes_with pass = Ok declared.Verdict.Pass
closes_with (fault k) = Ok (declared.Verdict.Fault k)

-- what the rules give
unfoldable pub close_call : Settings → List ℕ → Judge → CloseSaid
close_call s store j =
    let n : ℕ = first (close_rows s store j) in
    pick (eqb n 0) (close_says (closes_with (judge_close j))) (close_refused n)

-- ---- a run

-- calls one after another, record and store handed on: what each was refused for, and what they leave
pub record RunCalls : Type 0 where
  pub refusals : List ℕ
  pub next : Judge
  pub store : List ℕ

unfoldable pub calls : Calling → Settings → List ℕ → Judge → List (List ℕ) → RunCalls
calls call s store j [] = record { refusals = []; next = j; store = store }
calls call s store j (f ∷ fs) =
    let a : JudgeSaid = call s store j f in
    let r : RunCalls = calls call s a.store a.next fs in
    record { refusals = a.refusal ∷ r.refusals; next = r.next; store = r.store }

-- the record and the store that they leave
abbrev pub left_by : RunCalls → Judging
left_by r = judging r.next r.store

-- with each frame
abbrev pub judge_calls : Settings → List ℕ → Judge → List (List ℕ) → RunCalls
judge_calls = calls frame_call

-- from nothing to the close
abbrev pub run_by : Calling → Settings → List ℕ → List (List ℕ) → CloseSaid
run_by call s store fs =
    let r : RunCalls = calls call s store Open fs in
    close_call s r.store r.next

abbrev pub judge_run : Settings → List ℕ → List (List ℕ) → CloseSaid
judge_run = run_by frame_call
