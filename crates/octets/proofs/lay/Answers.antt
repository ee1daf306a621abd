use Rattle.std.proofs.Common.{refl, sym, ◌∙◌}
use borrow.Author.Tests.{le-leb, lt-leb}
use Rattle.octets.proofs.Written.{no_part, a_part}
use Rattle.octets.proofs.lay.Goals as goal

pub returns-then-to-from : goal.returns-then-to-from
returns-then-to-from c =
    let a = c.args in
    no_part a.buf.now a.at a.from a.to a.src.now (rw (lt-leb _ _ c.if-to-from.true) refl)

pub returns-then-src-to : goal.returns-then-src-to
returns-then-src-to c =
    let a = c.args in
    no_part a.buf.now a.at a.from a.to a.src.now (rw (le-leb _ _ c.if-to-from.false, lt-leb _ _ c.if-src-to.true) refl)

pub returns-then-not-within : goal.returns-then-not-within
returns-then-not-within c =
    let a = c.args in
    no_part a.buf.now a.at a.from a.to a.src.now
    (rw (le-leb _ _ c.if-to-from.false, le-leb _ _ c.if-src-to.false, sym c.within.ensures ∙ c.if-not-within.true) refl)

pub returns : goal.returns
returns c =
    let a = c.args in
    a_part a.buf.now a.at a.from a.to a.src.now _ c.if-to-from.false c.if-src-to.false (sym c.within.ensures ∙ c.if-not-within.false)
    c.copy.ensures
