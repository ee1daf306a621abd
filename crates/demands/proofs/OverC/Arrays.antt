-- Arrays that are lent to C calls: when they are long enough, and what is read where an answer was laid.
-- Assumes nothing.
use mathlib.Core.Path.{◌≡◌, refl, ap, ◌∙◌}
use mathlib.Core.List.{List, ◌++◌}
use mathlib.Core.Bool.{Bool, true, false}
use Prim.Native.Nat.{ℕ, ◌+◌, ◌≤◌}
use native.Mathlib.Nat.{zero-add}
use native.Mathlib.Omega.{arith}
use lib.ListN.{length, drop}
use lib.Dec.{leb, eqb}
use borrow.Author.Tests.{leb-true, le-ltb}
use Rattle.octets.specs.Basics.{over, laid}
use Rattle.octets.proofs.Tests.{test}
use Rattle.octets.proofs.Written.{laid_within, length_over}
use Rattle.arrays.specs.Arrays.{told, kept, bit}
use Rattle.exports.specs.Channel.{settings_numbers, short}

-- a flag as a number says which it is
pub flag_back : (b : Bool) → eqb (bit b) 1 ≡ b
flag_back true = refl
flag_back false = refl

pub long_enough : (settings numbers answer : List ℕ) (room : ℕ) → settings_numbers ≤ length settings → 4 ≤ length numbers → room ≤ length answer
    → short (length settings) (length numbers) (length answer) room ≡ false
unfolding short
long_enough settings numbers answer room a b c = rw (le-ltb _ _ a, le-ltb _ _ b, le-ltb _ _ c) refl

-- what is laid is the array's front
pub told_front : (array ns : List ℕ) → length ns ≤ length array → told array ns ≡ ns ++ drop (length ns) array
unfolding over
told_front array ns h =
    laid_within array 0 ns (omega arith) ∙ ap (λ (n : ℕ). ns ++ drop n array) (zero-add (length ns))

-- and it keeps its length
pub told_long : (array ns : List ℕ) → length (told array ns) ≡ length array
unfolding laid
told_long array ns =
    test (leb (0 + length ns) (length array))
    (λ t. rw t (length_over array 0 ns (leb-true _ _ t)))
    (λ t. rw t refl)

pub kept_long : (refusal : ℕ) (array ns : List ℕ) → length (kept refusal array ns) ≡ length array
kept_long refusal array ns = test (eqb refusal 0) (λ t. rw t (told_long array ns)) (λ t. rw t refl)
