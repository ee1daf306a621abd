-- `input::Reader::wait_for`: each read is behind what is there, and the buffer fills.
use Rattle.std.proofs.Common.{◌≡◌, ◌-◌, length}
use Rattle.aosread.proofs.Moved.{Waiting}
use Rattle.aosread.proofs.input.Reader.wait_for.Given as goal

abbrev pub invariant-loop-self : goal.invariant-loop-self
invariant-loop-self g l =
    let r = l.self-inside in
    record { body : r.body ≡ 0; from : r.from ≡ 0; same : length r.octets ≡ 65536; waits : Waiting l.fn.self.unread r.to r.octets }

abbrev pub decreases-loop-self : goal.decreases-loop-self
decreases-loop-self g l = l.n - l.self-inside.to
