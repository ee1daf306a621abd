-- Each turn judges the first of the frames that are left.
use Rattle.std.proofs.Common.{arith, ap, ◌∙◌}
use Rattle.judge.proofs.Tapes.{some_octets, plays}
use Rattle.judge.proofs.Winding.{winds_first, winds_last, frame_taken, winds_on}
use Rattle.judge.proofs.playing.played.Goals as goal

pub chunks_exact-frame-items-requires : goal.chunks_exact-frame-items-requires
chunks_exact-frame-items-requires c = omega (arith, some_octets c.args.s, c.requires.size_value)

pub loop-frame-init-derived : goal.loop-frame-init-derived
loop-frame-init-derived c = omega (arith, some_octets c.args.s, c.requires.size_value, ap (λ i. i.size) c.into_iter-frame-iterator.ensures.into_iter_gives, c.chunks_exact-frame-items.ensures.size)

pub loop-frame-init : goal.loop-frame-init
loop-frame-init c =
    let i = c.into_iter-frame-iterator.ensures.into_iter_gives in
    let start = c.chunks_exact-frame-items.ensures in
    let a = c.args in
    winds_first (ap (λ x. x.size) i ∙ start.size ∙ c.requires.size_value) (ap (λ x. x.rest.now) i ∙ start.rest) (plays a.s a.store.now a.j a.tape.now c.requires.tape_value)

pub judged-next-requires : goal.judged-next-requires
judged-next-requires c =
    let turn = c.in-Some.ensures.steps in
    frame_taken c.in-Some.frame.now _ c.loop-frame.invariant turn.1.0 turn.1.1

pub loop-frame-preserved : goal.loop-frame-preserved
loop-frame-preserved c =
    let turn = c.in-Some.ensures.steps in
    winds_on c.in-Some.frame.now _ c.loop-frame.invariant turn.1.0 turn.1.1 turn.0 c.judged-next.ensures

pub returns : goal.returns
returns c =
    let turn = c.in-None.ensures.steps in
    winds_last c.loop-frame.invariant turn.1.0
