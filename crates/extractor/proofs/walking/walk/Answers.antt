-- At each return what is at hand says which case of the definition holds.
use Rattle.std.proofs.Common.{refl, ◌∙◌, arith}
use Rattle.extractor.proofs.Steps.{plain, length-left, step_torn, step_kept, kept_room, whole_there, step_frame}
use Rattle.extractor.proofs.walking.walk.Goals as goal

pub overflow_add-from : goal.overflow_add-from
overflow_add-from c = omega (arith, plain c.requires)

pub overflow_add-to : goal.overflow_add-to
overflow_add-to c = omega (arith, plain c.requires)

pub slice_bounds-left-end : goal.slice_bounds-left-end
slice_bounds-left-end c = omega (arith, plain c.requires)

pub keep-requires : goal.keep-requires
keep-requires c =
    let n = length-left c.requires c.args.last in
    let r = kept_room c.requires c.args.last _ c.read_length.ensures (omega (arith, n)) c.at_hand.ensures c.in-More.is in
    omega (arith, n, r)

pub overflow_add-at : goal.overflow_add-at
overflow_add-at c =
    let n = length-left c.requires c.args.last in
    let (e, k) = whole_there c.requires c.args.last _ c.read_length.ensures (omega (arith, n)) c.at_hand.ensures c.in-Whole.is in
    omega (arith, plain c.requires, k)

pub returns-in-Damaged : goal.returns-in-Damaged
returns-in-Damaged c =
    let n = length-left c.requires c.args.last in
    rw (c.abandoned.ensures.0, c.abandoned.ensures.1)
    (step_torn c.requires c.args.last _ c.read_length.ensures (omega (arith, n)) c.at_hand.ensures c.in-Damaged.is)

pub returns-in-More : goal.returns-in-More
returns-in-More c =
    let n = length-left c.requires c.args.last in
    c.keep.ensures ∙ step_kept c.requires c.args.last _ c.read_length.ensures (omega (arith, n)) c.at_hand.ensures c.in-More.is

pub returns-in-Whole : goal.returns-in-Whole
returns-in-Whole c =
    let n = length-left c.requires c.args.last in
    let (e, k) = whole_there c.requires c.args.last _ c.read_length.ensures (omega (arith, n)) c.at_hand.ensures c.in-Whole.is in
    rw c.onward-next.ensures (step_frame c.requires c.args.last _ c.read_length.ensures e k _ refl c.is_idle.ensures)
