-- A run judged through the C interface, over arrays of numbers.
use Rattle.std.specs.Prelude.{ℕ, List, [], ◌∷◌, not, get_or, eqb}
use Rattle.judge.specs.Calls.{Calling, frame_call, CloseSaid, RunCalls}
use Rattle.judge.specs.Tapes.{tape_call}
use Rattle.exports.specs.Left.{Left}
use Rattle.exports.specs.Judging.{judge_of, judging_leaves, close_leaves}
use Rattle.demands.specs.OverC.Listening.{zeroed}

-- what the calls returned, and the record's array and the store that they leave
pub record JudgingInC : Type 0 where
  pub refusals : List ℕ
  pub numbers : List ℕ
  pub store : List ℕ

-- the same with the record that the array states
abbrev pub as_calls : JudgingInC → RunCalls
as_calls r = record { refusals = r.refusals; next = judge_of r.numbers; store = r.store }

-- calls of one kind, one after another
unfoldable pub calls_in_c : Calling → List ℕ → List ℕ → List ℕ → List (List ℕ) → JudgingInC
calls_in_c call settings numbers store [] = record { refusals = []; numbers = numbers; store = store }
calls_in_c call settings numbers store (f ∷ fs) =
    let l : Left = judging_leaves call settings numbers store f in
    let r : JudgingInC = calls_in_c call settings l.numbers l.octets fs in
    record { refusals = l.refusal ∷ r.refusals; numbers = r.numbers; store = r.store }

-- `itz_judge_frame` with each frame of a run
abbrev pub judge_in_c : List ℕ → List ℕ → List ℕ → List (List ℕ) → JudgingInC
judge_in_c = calls_in_c frame_call

-- `itz_judge_tape` with each of its tapes
abbrev pub tapes_in_c : List ℕ → List ℕ → List ℕ → List (List ℕ) → JudgingInC
tapes_in_c = calls_in_c tape_call

-- what a caller reads after `itz_judge_close`, which returned this refusal: [0] is 1 for a pass and 2 for a fault, [1] its index
abbrev pub read_verdict : ℕ → List ℕ → CloseSaid
read_verdict refusal answer = record {
  accepted = not (eqb (get_or answer 0 0) 0);
  refusal = refusal;
  passes = eqb (get_or answer 0 0) 1;
  at = get_or answer 1 0;
}

-- a whole run, from four zeros in the record's array to `itz_judge_close`
abbrev pub closes_in_c : Calling → List ℕ → List ℕ → List ℕ → List ℕ → List (List ℕ) → CloseSaid
closes_in_c call settings array store answer fs =
    let r : JudgingInC = calls_in_c call settings (zeroed array) store fs in
    let l : Left = close_leaves settings r.numbers r.store answer in
    read_verdict l.refusal l.answer

abbrev pub close_in_c : List ℕ → List ℕ → List ℕ → List ℕ → List (List ℕ) → CloseSaid
close_in_c = closes_in_c frame_call

abbrev pub close_tapes_in_c : List ℕ → List ℕ → List ℕ → List ℕ → List (List ℕ) → CloseSaid
close_tapes_in_c = closes_in_c tape_call
