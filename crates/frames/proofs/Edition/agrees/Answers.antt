-- `Edition::agrees` meets its contract: each edition asks for what 732.0-B-3 does with its usage.
use Rattle.std.proofs.Common.{◌≡◌, sym, ◌∙◌, arith, rules}
use Rattle.frames.specs.Edition.{usage}
use Rattle.frames.proofs.Signals.{usage_small, unused_as, used_flags, signals_used}
use Rattle.frames.proofs.Edition.agrees.Goals as goal

pub returns-then-usage-eq0 : goal.returns-then-usage-eq0
returns-then-usage-eq0 c =
    let unset = sym c.usage.ensures ∙ c.if-usage-eq0.true in
    let by_usage = rw unset at (signals_used c.args.self c.args.head) in
    search (rules, unused_as)

pub returns : goal.returns
returns c =
    let set : usage c.args.self ≡ 1 = omega (arith, c.usage.ensures, c.if-usage-eq0.false, usage_small c.args.self) in
    let by_usage = rw set at (signals_used c.args.self c.args.head) in
    search (rules, used_flags)
