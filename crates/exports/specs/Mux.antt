-- The multiplexer in the numbers of the C interface.
use Rattle.std.specs.Prelude.{ℕ, List, [], ◌∷◌, length, get_or, ltb}
use Rattle.octets.specs.Basics.{pick}
use Rattle.multiplexer.specs.Multiplex.{begun}
use Rattle.multiplexer.specs.Calls.{Call, Answer, answer}
use Rattle.multiplexer.specs.declared.Mux.{Mux}
use Rattle.arrays.specs.Arrays.{told, kept, bit, count_of}
use Rattle.exports.specs.Left.{Left, left}
use Rattle.exports.specs.Channel.{short, settings_of}

-- the record: the count, the octets laid, the first start and the octets taken; and back
unfoldable pub mux_numbers : Mux → List ℕ
mux_numbers m = m.count ∷ m.filled ∷ m.first ∷ m.taken ∷ []

unfoldable pub mux_of : List ℕ → Mux
mux_of ns = record { count = count_of (get_or ns 0 0); filled = get_or ns 1 0; first = get_or ns 2 0; taken = get_or ns 3 0 }

-- the first record, laid into an array
unfoldable pub begin_leaves : List ℕ → Left
begin_leaves numbers = pick (ltb (length numbers) 4) (left 2 numbers [] []) (left 0 (told numbers (mux_numbers begun)) [] [])

-- what a put answers: whether the zone is full, and whether the packet is taken; and what is wrong with the packet's header
unfoldable pub put_numbers : Answer → List ℕ
put_numbers a = bit a.full ∷ bit a.taken ∷ a.damage ∷ []

-- what a flush answers: 1 nothing was begun, 2 a frame was written
unfoldable pub flush_numbers : Answer → List ℕ
flush_numbers a = pick a.accepted (pick {A = ℕ} a.full 2 1) 0 ∷ []

-- an idle zone answers no more than its refusal
abbrev pub no_numbers : Answer → List ℕ
no_numbers a = []

-- what a call leaves whose answer has so many numbers
unfoldable pub mux_leaves : Call → ℕ → (Answer → List ℕ) → List ℕ → List ℕ → List ℕ → List ℕ → Left
mux_leaves call room said settings numbers frame array =
    let a : Answer = answer (settings_of settings) (mux_of numbers) call frame in
    let refusal : ℕ = a.refusal in
    pick (short (length settings) (length numbers) (length array) room)
    (left 2 numbers frame array)
    (left refusal (kept refusal numbers (mux_numbers a.mux)) a.frame (told array (said a)))
