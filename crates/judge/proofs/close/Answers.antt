-- A refusal, or the verdict.
use Rattle.std.proofs.Common.{rules, refl}
use Rattle.octets.proofs.ByNumber.{refused_not_0}
use Rattle.judge.specs.Calls.{close_says, close_call}
use Rattle.judge.proofs.Answered.{close_refuses}
use Rattle.judge.proofs.close.Goals as goal

pub returns-in_err-check : goal.returns-in_err-check
unfolding close_says
returns-in_err-check c =
    let a = c.args in
    let told = close_refuses a.s a.store.now a.j c.in_err-check.ensures (refused_not_0 c.in_err-check.field-0.0) in
    search rules

pub returns : goal.returns
unfolding close_call
returns c = rw (← c.in_ok-check.ensures, ← c.verdict.ensures) refl
