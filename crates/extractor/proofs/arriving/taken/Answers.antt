-- What is said of the frame, and where its walk sets out.
use Rattle.std.proofs.Common.{sym, ap, ◌∙◌, not, arith, length-take-le}
use Rattle.extractor.proofs.Unrefused.{arrives, arriving_walks}
use Rattle.extractor.proofs.Steps.{plain, zone_left}
use Rattle.extractor.proofs.Arrivals.{set_off_is, none_is_0, some_is_not_0, taken_kept, taken_lost}
use Rattle.extractor.proofs.arriving.taken.Goals as goal

pub slice_bounds-held-end : goal.slice_bounds-held-end
slice_bounds-held-end c =
    let p = plain (arriving_walks (arrives _ _ _ _ c.requires.frame_value)) in
    sym (length-take-le _ _ (omega (arith, p, c.held_in.ensures)))

pub overflow_add-zone : goal.overflow_add-zone
overflow_add-zone c = omega (arith, plain (arriving_walks (arrives _ _ _ _ c.requires.frame_value)))

pub slice_bounds-zone-end : goal.slice_bounds-zone-end
slice_bounds-zone-end c = omega (arith, plain (arriving_walks (arrives _ _ _ _ c.requires.frame_value)))

pub invariant_of-held : goal.invariant_of-held
invariant_of-held c =
    let a = c.args in
    let w = arriving_walks (arrives _ _ _ _ c.requires.frame_value) in
    record {
      limit_least = omega (arith, plain w);
      stated_value = rw c.held_in.ensures c.requires.says;
    }

pub returns-then-is_none : goal.returns-then-is_none
returns-then-is_none c =
    let a = c.args in
    let came = arrives _ _ _ _ c.requires.frame_value in
    let named = rw (c.held_in.ensures, ← zone_left a.s 0 a.frame.now) at c.reason-reason.ensures in
    let held = length-take-le _ a.store.now (arriving_walks came).holds in
    taken_kept came a.heading c.requires.heads c.reason-reason.result c.lost_since-lost.ensures named
    (none_is_0 c.reason-reason.result (c.is_none.ensures ∙ ap not c.if-is_none.true))
    (cc (held, set_off_is a.s a.heading.count a.heading.pointer a.x))

pub returns : goal.returns
returns c =
    let a = c.args in
    let came = arrives _ _ _ _ c.requires.frame_value in
    let named = rw (c.held_in.ensures, ← zone_left a.s 0 a.frame.now) at c.reason-reason.ensures in
    let held = length-take-le _ a.store.now (arriving_walks came).holds in
    taken_lost came a.heading c.requires.heads c.reason-reason.result c.lost_since-lost.ensures named
    (some_is_not_0 c.reason-reason.result (c.is_none.ensures ∙ ap not c.if-is_none.false)) (cc (held)) c.set_off-2.ensures
