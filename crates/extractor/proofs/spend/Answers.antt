-- A frame that is refused is left as it was.
use Rattle.std.proofs.Common.{rules}
use Rattle.octets.proofs.ByNumber.{refused_not_0}
use Rattle.extractor.proofs.Spends.{spend_refused}
use Rattle.extractor.proofs.spend.Goals as goal

pub returns-in_err-check_step : goal.returns-in_err-check_step
returns-in_err-check_step c =
    let a = c.args in
    let told = spend_refused a.s a.frame.now a.x a.store.now c.in_err-check_step.ensures (refused_not_0 c.in_err-check_step.field-0.0) in
    search rules
