-- Progress that no file leads to has no next body, and between frames the settings fit.
use Rattle.runfile.proofs.Bounds.{standing}
use Rattle.runfile.proofs.Unreached.{unreached_are_bad}
use Rattle.runfile.proofs.body_length.Goals as goal

pub returns-then-not-reachable : goal.returns-then-not-reachable
returns-then-not-reachable c = cc ((unreached_are_bad c.args.p (cc)).no_body c.args.kind)

pub frame_length-requires : goal.frame_length-requires
frame_length-requires c = (standing c.in-Running-eq2.settings c.in-Running-eq2.frames (cc)).settings_fit
