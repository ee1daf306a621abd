use Rattle.std.proofs.Common.{◌≡◌, sym, ◌∙◌, ap, ℕ, ◌+◌, ◌-◌, length, take, drop, replicate}
use native.Mathlib.Omega.{arith}
use borrow.Author.Tests.{leb-true}
use Rattle.std.proofs.lemmas.List.{length-replicate}
use Rattle.octets.proofs.Written.{length_run, lays_none, lays_part}
use Rattle.octets.proofs.fill.Goals as goal

pub returns-then-not-within : goal.returns-then-not-within
returns-then-not-within c =
    let a = c.args in
    lays_none a.buf.now a.at a.n (replicate a.n a.octet) (length-replicate a.n a.octet) (sym c.within.ensures ∙ c.if-not-within.true)

pub returns : goal.returns
returns c =
    let a = c.args in
    let inside = sym c.within.ensures ∙ c.if-not-within.false in
    let n : a.at + a.n - a.at ≡ a.n = omega arith in
    let run = ap (λ (m : ℕ). length (take m (drop a.at a.buf.now))) n ∙ length_run a.buf.now a.at a.n (leb-true _ _ inside) in
    lays_part a.buf.now a.at a.n (replicate a.n a.octet) c.fill.new.self (length-replicate a.n a.octet) inside
    (c.fill.ensures.after (λ y e. e) ∙ ap (λ (m : ℕ). replicate m a.octet) run)
