-- `input::Reader::wait_for` meets its contract: each read is behind what is there.
use Rattle.std.proofs.Common.{◌-◌, List, ℕ, arith}
use Rattle.std.proofs.lemmas.Slice.{take-put_mid_below}
use Rattle.aosread.proofs.Moved.{waited}
use Rattle.aosread.proofs.input.Reader.wait_for.Goals as goal

pub returns-then-got-eq0 : goal.returns-then-got-eq0
returns-then-got-eq0 g c =
    let i = c.loop-self.invariant in
    let r = c.loop-self.self-inside in
    let part : List ℕ = c.read-got.new.part in
    waited _ i.from i.waits (take-put_mid_below r.to (65536 - r.to) r.octets part r.to (omega arith) i.waits.inside)
