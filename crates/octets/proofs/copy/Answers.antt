use Rattle.std.proofs.Common.{◌≡◌, sym, ap, ◌∙◌, arith, drop}
use lib.ListN.{length-drop}
use lib.Seq.{paste, paste-zero, get_or-drop}
use Rattle.octets.proofs.Written.{over_paste, paste_more}
use Rattle.octets.proofs.copy.Goals as goal

pub loop-i-init : goal.loop-i-init
loop-i-init c =
    let a = c.args in
    paste-zero a.buf.now a.at (drop a.from a.src.now)

pub loop-i-preserved : goal.loop-i-preserved
loop-i-preserved c =
    let a = c.args in
    let i = c.loop-i.i in
    paste_more a.buf.now a.at (drop a.from a.src.now) i _ _ c.loop-i.invariant (omega arith)
    (rw (length-drop a.from a.src.now) (omega arith)) (get_or-drop a.from a.src.now i 0)

pub returns : goal.returns
returns c =
    let a = c.args in
    let s = drop a.from a.src.now in
    let e : c.loop-i.i ≡ a.n = omega arith in
    c.loop-i.invariant
    ∙ ap (paste a.buf.now a.at s) e
    ∙ sym (over_paste a.buf.now a.at s a.n (rw (length-drop a.from a.src.now) (omega arith)))
