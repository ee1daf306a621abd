-- The same test by what may come yet.
use Rattle.std.proofs.Common.{arith}
use Prim.Native.Nat.{suc, ◌+◌, ◌-◌}
use Rattle.octets.proofs.Choices.{leb_iff}
use Rattle.frames.specs.Frame.{most_frames}
use Rattle.judge.specs.Calls.{tally_of}
use Rattle.judge.proofs.record.is_past_last.Goals as goal

pub returns : goal.returns
returns c =
    let a = c.args in
    let e = c.tally_of.ensures in
    let few = c.requires in
    leb_iff (suc (most_frames - c.tally_of.result)) a.more (suc most_frames) (tally_of a.j + a.more) (λ h. omega arith) (λ h. omega arith)
