-- The loss flag over a whole run, by document 02's request L3: from the units that were read, without the reader's record.
use Rattle.std.specs.Prelude.{ℕ, List, [], ◌∷◌, Bool, true, false, not, eqb}
use Rattle.octets.specs.Basics.{pick, or, first}
use Rattle.frames.specs.Link.{count_width, next_count}
use Rattle.frames.specs.BitFrame.{bit_heading_rows, bit_count, bit_replay, bit_pointer}
use Rattle.frames.specs.declared.bits.BitSettings.{BitSettings}
use Rattle.bitstream.specs.Bitstream.{valid_bits}

-- a unit that was read: its count, whether that followed the last one read, and how many bits it has
pub record BitUnit : Type 0 where
  pub count : ℕ
  pub followed : Bool
  pub bits : ℕ

-- ---- lists of units have the newest first

-- whether a count follows that of the newest unit; the first of all has none to follow, and nothing is lost before it
unfoldable pub follows : ℕ → List BitUnit → ℕ → Bool
follows width [] c = true
follows width (u ∷ us) c = eqb c (next_count width u.count)

-- the units since the last one with bits
unfoldable pub since_bits : List BitUnit → List BitUnit
since_bits [] = []
since_bits (u ∷ us) = pick (eqb u.bits 0) (u ∷ since_bits us) []

-- whether any count of these did not follow
unfoldable pub any_lost : List BitUnit → Bool
any_lost [] = false
any_lost (u ∷ us) = or (not u.followed) (any_lost us)

-- a unit's loss flag behind those read before it: with bits, whether any count since the last unit with bits, its own included, did not follow; else clear
unfoldable pub flag : BitUnit → List BitUnit → Bool
flag u us = pick (eqb u.bits 0) false (any_lost (u ∷ since_bits us))

-- ---- runs

-- the unit of a frame behind those read before it
abbrev pub unit_of : BitSettings → List BitUnit → List ℕ → BitUnit
unit_of s us f = record {
  count = bit_count s f;
  followed = follows (count_width s.link) us (bit_count s f);
  bits = valid_bits s (bit_pointer s f);
}

-- the units after a frame: one that is refused brings none
unfoldable pub units_with : BitSettings → List BitUnit → List ℕ → List BitUnit
units_with s us f = pick (eqb (first (bit_heading_rows s f)) 0) (unit_of s us f ∷ us) us

-- the units after a run
unfoldable pub units_after : BitSettings → List BitUnit → List (List ℕ) → List BitUnit
units_after s us [] = us
units_after s us (f ∷ fs) = units_after s (units_with s us f) fs

-- what is said of a frame
pub record BitsSaid : Type 0 where
  pub refusal : ℕ
  pub count : ℕ
  pub replay : ℕ
  pub bits : ℕ
  pub lost : Bool

-- its refusal alone; or its count, its replay flag, how many bits it has, and its loss flag
unfoldable pub frame_said : BitSettings → List BitUnit → List ℕ → BitsSaid
frame_said s us f =
    let r : ℕ = first (bit_heading_rows s f) in
    let u : BitUnit = unit_of s us f in
    pick (eqb r 0)
    (record { refusal = 0; count = u.count; replay = bit_replay s f; bits = u.bits; lost = flag u us })
    (record { refusal = r; count = 0; replay = 0; bits = 0; lost = false })

-- of each frame of a run
unfoldable pub run_said : BitSettings → List BitUnit → List (List ℕ) → List BitsSaid
run_said s us [] = []
run_said s us (f ∷ fs) = frame_said s us f ∷ run_said s (units_with s us f) fs
