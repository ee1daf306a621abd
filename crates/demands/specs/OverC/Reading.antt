-- Bits read through the C interface, over arrays of numbers.
use Rattle.std.specs.Prelude.{ℕ, List, [], ◌∷◌, get_or, eqb}
use Rattle.bitstream.specs.Loss.{BitsSaid}
use Rattle.arrays.specs.Arrays.{told}
use Rattle.exports.specs.Left.{Left}
use Rattle.exports.specs.Bits.{read_leaves}

-- the start of a reader: three zeros laid into the record's array
abbrev pub reader_zeroed : List ℕ → List ℕ
reader_zeroed array = told array (0 ∷ 0 ∷ 0 ∷ [])

-- what a caller reads after `itz_bits_read`, which returned this refusal: [0] is the count, [1] the replay flag, [2] the loss flag and [3] how many bits
abbrev pub read_unit : ℕ → List ℕ → BitsSaid
read_unit refusal answer = record {
  refusal = refusal;
  count = get_or answer 0 0;
  replay = get_or answer 1 0;
  bits = get_or answer 3 0;
  lost = eqb (get_or answer 2 0) 1;
}

-- `itz_bits_read` with each frame of a run
unfoldable pub read_in_c : List ℕ → List ℕ → List ℕ → List (List ℕ) → List BitsSaid
read_in_c settings numbers answer [] = []
read_in_c settings numbers answer (f ∷ fs) =
    let l : Left = read_leaves settings numbers f answer in
    read_unit l.refusal l.answer ∷ read_in_c settings l.numbers l.answer fs
