use Rattle.std.proofs.Common.{refl, sym, ◌∙◌}
use native.Mathlib.Omega.{arith}
use Rattle.trailer.specs.Division.{bits, modulo, brought_down}
use Rattle.trailer.proofs.Table.{table_rule}
use Rattle.trailer.proofs.Remainders.{remainder_none, remainder_more, remainder_whole}
use Rattle.trailer.proofs.remainder.Goals as goal

pub loop-octet-init : goal.loop-octet-init
loop-octet-init c = sym remainder_none

pub next-register-requires : goal.next-register-requires
unfolding bits modulo brought_down
next-register-requires c = table_rule _ refl

pub loop-octet-preserved : goal.loop-octet-preserved
loop-octet-preserved c =
    c.next-register.ensures ∙ remainder_more c.args.octets.now c.loop-octet.octet-index _ c.loop-octet-test.true c.loop-octet.invariant

pub returns : goal.returns
returns c = c.loop-octet.invariant ∙ remainder_whole c.args.octets.now c.loop-octet.octet-index (omega (arith, c.loop-octet-test.false, c.loop-octet.auto.octet-index-end))
