-- The judge in the numbers of the C interface.
use Rattle.std.specs.Prelude.{ℕ, List, [], ◌∷◌, not, length, get_or, eqb}
use Rattle.octets.specs.Basics.{pick}
use Rattle.judge.specs.Calls.{JudgeSaid, Calling, frame_call, CloseSaid, close_call}
use Rattle.judge.specs.Tapes.{tape_call}
use Rattle.judge.specs.declared.Judge.{Judge}
use Rattle.judge.specs.declared.Judge.TheVariants.{Open, Sound, Faulty}
use Rattle.arrays.specs.Arrays.{told, kept, count_of}
use Rattle.exports.specs.Left.{Left, left}
use Rattle.exports.specs.Channel.{short, settings_of}

-- ---- the record

-- its kind, the tally, the last count or the index of the first fault, and the octets held; 0 for what the kind does not use
unfoldable pub judge_numbers : Judge → List ℕ
judge_numbers Open = 0 ∷ 0 ∷ 0 ∷ 0 ∷ []
judge_numbers (Sound tally last held) = 1 ∷ tally ∷ last ∷ held ∷ []
judge_numbers (Faulty tally at) = 2 ∷ tally ∷ at ∷ 0 ∷ []

-- a record that no call reaches: a fault before any frame
abbrev pub unjudged : Judge
unjudged = Faulty 0 0

-- the record of a kind, from the kind that uses all the numbers to the one that uses none: such a one where a number is not 0 that
-- is not used, and for any other kind
unfoldable pub judge_with : ℕ → ℕ → ℕ → ℕ → Judge
judge_with kind tally last held =
    pick (eqb kind 1) (Sound tally last held)
    (pick (not (eqb held 0)) unjudged
    (pick (eqb kind 2) (Faulty tally last)
    (pick (not (eqb last 0)) unjudged
    (pick (not (eqb tally 0)) unjudged
    (pick (eqb kind 0) Open unjudged)))))

abbrev pub judge_of : List ℕ → Judge
judge_of ns = judge_with (get_or ns 0 0) (count_of (get_or ns 1 0)) (count_of (get_or ns 2 0)) (get_or ns 3 0)

-- ---- a frame, and a tape

-- either call, with the octets that are handed over
unfoldable pub judging_leaves : Calling → List ℕ → List ℕ → List ℕ → List ℕ → Left
judging_leaves call settings numbers store os =
    let a : JudgeSaid = call (settings_of settings) store (judge_of numbers) os in
    pick (short (length settings) (length numbers) 0 0)
    (left 2 numbers store [])
    (left a.refusal (kept a.refusal numbers (judge_numbers a.next)) a.store [])

abbrev pub judge_leaves : List ℕ → List ℕ → List ℕ → List ℕ → Left
judge_leaves = judging_leaves frame_call

abbrev pub tape_leaves : List ℕ → List ℕ → List ℕ → List ℕ → Left
tape_leaves = judging_leaves tape_call

-- ---- the close

-- 1 a pass, 2 a fault, and where it stands
unfoldable pub close_numbers : CloseSaid → List ℕ
close_numbers a = pick a.accepted (pick {A = ℕ} a.passes 1 2) 0 ∷ a.at ∷ []

unfoldable pub close_leaves : List ℕ → List ℕ → List ℕ → List ℕ → Left
close_leaves settings numbers store answer =
    let a : CloseSaid = close_call (settings_of settings) store (judge_of numbers) in
    pick (short (length settings) (length numbers) (length answer) 2)
    (left 2 [] [] answer)
    (left a.refusal [] [] (told answer (close_numbers a)))
