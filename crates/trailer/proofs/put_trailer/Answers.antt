use Rattle.std.proofs.Common.{sym, ap, ◌∙◌, ℕ}
use native.Mathlib.Omega.{arith}
use Rattle.octets.specs.Basics.{octets, laid}
use Rattle.trailer.specs.Trailer.{trailer, with_trailer}
use Rattle.trailer.proofs.Right.{with_trailer_past}
use Rattle.trailer.proofs.put_trailer.Goals as goal

pub returns-then-buf-at : goal.returns-then-buf-at
returns-then-buf-at c = sym (with_trailer_past c.args.buf.now c.args.at (omega (arith, c.if-buf-at.true)))

pub returns : goal.returns
unfolding with_trailer trailer
returns c =
    let a = c.args in
    c.put.ensures.left ∙ ap (λ (r : ℕ). laid a.buf.now a.at (octets 2 r)) c.remainder-r.ensures
