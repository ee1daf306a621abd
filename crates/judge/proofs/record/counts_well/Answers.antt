-- A zone's octets for every frame of a run are no more than a number of 64 bits.
use Rattle.std.proofs.Common.{arith}
use native.Mathlib.Nat.{mul-le-mul_left}
use Rattle.frames.proofs.Settled.{settled}
use Rattle.judge.proofs.record.counts_well.Goals as goal

pub overflow_mul-result : goal.overflow_mul-result
overflow_mul-result c = record { fits = omega (arith, mul-le-mul_left c.in-Sound.tally (settled c.args.s c.requires).zone_most) }
