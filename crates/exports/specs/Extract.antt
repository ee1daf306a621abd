-- The extractor in the numbers of the C interface.
use Rattle.std.specs.Prelude.{ℕ, ◌+◌, List, [], ◌∷◌, not, length, get_or, leb, ltb, eqb}
use Rattle.octets.specs.Basics.{pick, or}
use Rattle.extractor.specs.Answers.{EnterNumbers, EnterSaid, enter_answer, StepNumbers, StepSaid, step_answer}
use Rattle.extractor.specs.declared.Extractor.{Extractor}
use Rattle.extractor.specs.declared.Extractor.TheVariants.{Fresh, Astray, InStep, Walking, Leaving}
use Rattle.arrays.specs.Arrays.{told, kept, count_of}
use Rattle.exports.specs.Left.{Left, left}
use Rattle.exports.specs.Channel.{short, settings_of}

-- ---- the record

-- its kind, the last count, the octets held and the place of the walk; 0 for what the kind does not use
unfoldable pub extractor_numbers : Extractor → List ℕ
extractor_numbers Fresh = 0 ∷ 0 ∷ 0 ∷ 0 ∷ []
extractor_numbers (Astray last) = 1 ∷ last ∷ 0 ∷ 0 ∷ []
extractor_numbers (InStep last held) = 2 ∷ last ∷ held ∷ 0 ∷ []
extractor_numbers (Walking last held at) = 3 ∷ last ∷ held ∷ at ∷ []
extractor_numbers (Leaving last) = 4 ∷ last ∷ 0 ∷ 0 ∷ []

-- a record that no call reaches: its count is off the wheel
abbrev pub unreached : Extractor
unreached = Astray 4294967295

-- the record of a kind, from the kind that uses all the numbers to the one that uses none: such a one where a number is not 0 that
-- is not used, and for any other kind
unfoldable pub extractor_with : ℕ → ℕ → ℕ → ℕ → Extractor
extractor_with kind last held at =
    pick (eqb kind 3) (Walking last held at)
    (pick (not (eqb at 0)) unreached
    (pick (eqb kind 2) (InStep last held)
    (pick (not (eqb held 0)) unreached
    (pick (eqb kind 1) (Astray last)
    (pick (eqb kind 4) (Leaving last)
    (pick (not (eqb last 0)) unreached
    (pick (eqb kind 0) Fresh unreached)))))))

abbrev pub extractor_of : List ℕ → Extractor
extractor_of ns = extractor_with (get_or ns 0 0) (count_of (get_or ns 1 0)) (get_or ns 2 0) (get_or ns 3 0)

-- ---- entering

-- 1 for a frame that is entered, and what is said of it
unfoldable pub enter_numbers : EnterNumbers → List ℕ
enter_numbers a = a.outcome ∷ a.count ∷ a.replay ∷ a.lost ∷ a.dropped ∷ a.reason ∷ a.damage ∷ []

unfoldable pub enter_leaves : List ℕ → List ℕ → List ℕ → List ℕ → List ℕ → Left
enter_leaves settings numbers store frame answer =
    let a : EnterSaid = enter_answer (settings_of settings) (extractor_of numbers) store frame in
    let refusal : ℕ = a.answer.refusal in
    pick (short (length settings) (length numbers) (length answer) 7)
    (left 2 numbers [] answer)
    (left refusal (kept refusal numbers (extractor_numbers a.next)) [] (told answer (enter_numbers a.answer)))

-- ---- a step

-- 1 a packet, 2 an idle packet, 3 damaged, 4 spent; where the packet lies; and what is wrong with a damaged header
unfoldable pub step_numbers : StepNumbers → List ℕ
step_numbers a = a.outcome ∷ a.place ∷ a.start ∷ a.size ∷ a.damage ∷ []

unfoldable pub step_leaves : List ℕ → List ℕ → List ℕ → List ℕ → List ℕ → Left
step_leaves settings numbers store frame answer =
    let a : StepSaid = step_answer (settings_of settings) (extractor_of numbers) store frame in
    let refusal : ℕ = a.answer.refusal in
    pick (short (length settings) (length numbers) (length answer) 5)
    (left 2 numbers store answer)
    (left refusal (kept refusal numbers (extractor_numbers a.next)) a.store (told answer (step_numbers a.answer)))

-- ---- the part that a step found

-- a part of a buffer of so many octets at this place: the place, its start and its size, all 0 where it would run past the end
unfoldable pub part_numbers : ℕ → ℕ → ℕ → ℕ → List ℕ
part_numbers place room start size = pick (leb (start + size) room) (place ∷ start ∷ size ∷ []) (0 ∷ 0 ∷ 0 ∷ [])

-- the part that a step's answer names: 1 in the frame, 2 in the store; none at any other place
unfoldable pub show_numbers : List ℕ → List ℕ → List ℕ → List ℕ
show_numbers step frame store =
    let start : ℕ = get_or step 2 0 in
    let size : ℕ = get_or step 3 0 in
    pick (eqb (get_or step 1 0) 1) (part_numbers 1 (length frame) start size)
    (pick (eqb (get_or step 1 0) 2) (part_numbers 2 (length store) start size) (0 ∷ 0 ∷ 0 ∷ []))

-- the answer of a step is lent with frame and store; nothing but a short array is refused
unfoldable pub show_leaves : List ℕ → List ℕ → List ℕ → List ℕ → Left
show_leaves step frame store answer =
    pick (or (ltb (length step) 5) (ltb (length answer) 3))
    (left 2 [] [] answer)
    (left 0 [] [] (told answer (show_numbers step frame store)))
