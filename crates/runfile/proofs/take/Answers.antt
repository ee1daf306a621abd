-- From progress that no file leads to every record is bad.
use Rattle.runfile.proofs.Unreached.{unreached_are_bad}
use Rattle.runfile.proofs.take.Goals as goal

pub returns-then-not-reachable : goal.returns-then-not-reachable
returns-then-not-reachable c = cc ((unreached_are_bad c.args.p (cc)).not_taken c.args.kind c.args.body.now)
