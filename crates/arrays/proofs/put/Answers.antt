use Rattle.std.proofs.Common.{refl, sym, ap, ◌∙◌, zero-add, ℕ, ◌+◌, ◌≤◌, length, drop, List, ◌++◌}
use native.Mathlib.Omega.{arith}
use borrow.Author.Tests.{le-leb, lt-leb}
use Rattle.octets.specs.Basics.{over}
use Rattle.octets.proofs.Written.{lays, lays_none, laid_within}
use Rattle.arrays.proofs.put.Goals as goal

pub returns-then-array-room : goal.returns-then-array-room
returns-then-array-room c =
    let a = c.args in
    rw c.number.ensures (lays_none a.array.now 0 (length a.numbers.now) a.numbers.now refl (lt-leb _ _ (omega (arith, c.if-array-room.true))))

pub returns : goal.returns
unfolding over
returns c =
    let array = c.args.array.now in
    let numbers = c.args.numbers.now in
    let room : 0 + length numbers ≤ length array = omega (arith, c.if-array-room.false) in
    lays (le-leb _ _ room)
    (ap (λ (os : List ℕ). os ++ drop (length numbers) array) c.copy_from_slice.ensures.after
    ∙ ap (λ (n : ℕ). numbers ++ drop n array) (sym (zero-add (length numbers))) ∙ sym (laid_within array 0 numbers room))
