-- `missing` meets its contract: the wheel's law at a word of 32 bits.
use Rattle.std.proofs.Common.{ℕ, ◌+◌, ◌-◌, ◌%◌, ◌^◌, arith}
use Rattle.frames.specs.Link.{count_width}
use Rattle.frames.proofs.Wheel.{missing_wraps, count_narrow}
use Rattle.frames.proofs.missing.Goals as goal

pub returns : goal.returns
returns c =
    let a = c.args in
    let since : ℕ = (a.c + (2 ^ 32 - a.last)) % 2 ^ 32 in
    let lost : ℕ = (since + (2 ^ 32 - 1)) % 2 ^ 32 in
    rw c.wheel_of.ensures
    (missing_wraps 32 (count_width a.l) a.last a.c since lost (omega (arith, count_narrow a.l)) (omega (arith, c.ranges.last, c.ranges.c)) (omega arith))
