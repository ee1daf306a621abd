-- What settings of a bitstream channel in range are bounded by.
-- Assumes nothing.
use Rattle.std.proofs.Common.{◌≡◌, ◌≤◌, true, leb-true}
use Rattle.octets.proofs.Choices.{and_true}
use Rattle.frames.specs.BitFrame.{bits_in_range}
use Rattle.frames.specs.declared.bits.BitSettings.{BitSettings}
use Rattle.frames.proofs.Settled.{Linked, linked}

pub record BitsSettled (s : BitSettings) : Type 0 where
  pub on_link : Linked s.link
  pub width_least : 1 ≤ s.width
  pub width_most : s.width ≤ 2047

pub bits_settled : (s : BitSettings) → bits_in_range s ≡ true → BitsSettled s
unfolding bits_in_range
bits_settled s e =
    let a = and_true _ _ e in
    let b = and_true _ _ a.1 in
    record { on_link = linked s.link a.0; width_least = leb-true _ _ b.0; width_most = leb-true _ _ b.1 }
