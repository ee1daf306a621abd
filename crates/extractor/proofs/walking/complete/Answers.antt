-- At each return what is at hand says which case of the definition holds.
use Rattle.std.proofs.Common.{ℕ, List, take, ap, ◌∙◌, arith}
use Rattle.octets.specs.Basics.{over}
use Rattle.extractor.proofs.Parts.{written_over}
use Rattle.extractor.proofs.Steps.{left, plain, length-left, laid_fits, step_torn, step_kept, kept_room, whole_there, step_laid}
use Rattle.extractor.proofs.walking.complete.Goals as goal

pub overflow_add-zone : goal.overflow_add-zone
overflow_add-zone c = omega (arith, plain c.requires.walks.0)

pub slice_bounds-zone-end : goal.slice_bounds-zone-end
slice_bounds-zone-end c = omega (arith, plain c.requires.walks.0)

pub slice_bounds-begun-end : goal.slice_bounds-begun-end
slice_bounds-begun-end c = c.requires.walks.0.holds

pub invariant_of-begun : goal.invariant_of-begun
invariant_of-begun c =
    let a = c.args in
    let w = c.requires.walks.0 in
    record { limit_least = omega (arith, plain w); stated_value = c.requires.says }

pub keep-requires : goal.keep-requires
keep-requires c =
    let w = c.requires.walks.0 in
    let n = length-left w c.args.last in
    let r = kept_room w c.args.last _ c.across.ensures (omega arith) c.at_hand.ensures c.in-More.is in
    omega (arith, n, r)

pub returns-in-Damaged : goal.returns-in-Damaged
returns-in-Damaged c =
    rw (c.abandoned.ensures.0, c.abandoned.ensures.1)
    (step_torn c.requires.walks.0 c.args.last _ c.across.ensures (omega arith) c.at_hand.ensures c.in-Damaged.is)

pub returns-in-More : goal.returns-in-More
returns-in-More c =
    c.keep.ensures ∙ step_kept c.requires.walks.0 c.args.last _ c.across.ensures (omega arith) c.at_hand.ensures c.in-More.is

pub returns-in-Whole : goal.returns-in-Whole
returns-in-Whole c =
    let a = c.args in
    let w = c.requires.walks.0 in
    let (e, k) = whole_there w a.last _ c.across.ensures (omega arith) c.at_hand.ensures c.in-Whole.is in
    let fits = laid_fits w a.last _ c.across.ensures e k in
    let zone : List ℕ = left a.s 0 a.frame.now in
    let copied = written_over a.store.now a.held c.rest-rest.result zone _ c.lay.ensures.left (omega (arith, fits, c.rest-rest.ensures)) (omega (arith, fits, c.rest-rest.ensures)) in
    rw c.onward-next.ensures
    (step_laid w a.last _ c.across.ensures e k _ _ _ c.requires.walks.1 (omega (arith, c.rest-rest.ensures))
    (copied ∙ ap (λ (n : ℕ). over a.store.now a.held (take n zone)) c.rest-rest.ensures) c.is_idle.ensures)
