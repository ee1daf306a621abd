use Rattle.std.proofs.Common.{◌≡◌, sym, ◌∙◌, subst, ◌+◌, ◌-◌}
use native.Mathlib.Omega.{arith}
use borrow.Author.Tests.{leb-true}
use Rattle.octets.specs.Basics.{octets}
use Rattle.octets.proofs.Written.{Down, down_start, down_turn, down_end, length-octets, lays, lays_none}
use Rattle.octets.proofs.put.Goals as goal

pub returns-then-not-within : goal.returns-then-not-within
returns-then-not-within c =
    let a = c.args in
    lays_none a.buf.now a.at a.k (octets a.k a.n) (length-octets a.k a.n) (sym c.within.ensures ∙ c.if-not-within.true)

pub loop-i-init : goal.loop-i-init
loop-i-init c =
    let a = c.args in
    down_start a.buf.now a.at a.k a.n

pub loop-i-preserved : goal.loop-i-preserved
loop-i-preserved c =
    let a = c.args in
    let w = c.loop-i in
    let e : w.i ≡ w.i - 1 + 1 = omega arith in
    down_turn a.buf.now a.at a.k a.n w.buf w.rest (w.i - 1) (leb-true _ _ (sym c.within.ensures ∙ c.if-not-within.false))
    (subst (Down a.buf.now a.at a.k a.n w.buf w.rest) e w.invariant)

pub returns : goal.returns
returns c =
    let a = c.args in
    let w = c.loop-i in
    let inside = sym c.within.ensures ∙ c.if-not-within.false in
    let e : w.i ≡ 0 = omega arith in
    lays inside (down_end a.buf.now a.at a.k a.n w.buf w.rest (leb-true _ _ inside) (subst (Down a.buf.now a.at a.k a.n w.buf w.rest) e w.invariant))
