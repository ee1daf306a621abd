-- The check symbols of what is covered.
use Rattle.std.proofs.Common.{ap, ◌∙◌}
use Rattle.repair.specs.Code.{checks}
use Rattle.repair.specs.Header.{header_checks}
use Rattle.repair.proofs.header_checks.Goals as goal

pub returns : goal.returns
unfolding header_checks
returns c = c.checks.ensures ∙ ap checks c.six_of.ensures.six
