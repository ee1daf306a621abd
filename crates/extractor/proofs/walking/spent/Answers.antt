-- Each step of the walk leaves to do what the steps before it left, and fewer turns.
use Rattle.extractor.proofs.Spends.{rest_after, rest_on}
use Rattle.extractor.proofs.Unrefused.{walks}
use Rattle.extractor.proofs.walking.spent.Goals as goal

pub loop-next-init : goal.loop-next-init
loop-next-init c =
    let a = c.args in
    rest_after a.s a.frame.now a.x a.store.now c.moved-next.result c.moved-next.new.store c.requires.frame_value c.moved-next.ensures

pub walk-next-requires : goal.walk-next-requires
walk-next-requires c =
    let a = c.args in
    let o = rw c.in-Walking.is at c.loop-next.invariant in
    rw (← o.none_held) (walks a.s _ _ _ c.loop-next.store a.frame.now o.unrefused)

pub loop-next-smaller : goal.loop-next-smaller
loop-next-smaller c =
    let a = c.args in
    let o = rw c.in-Walking.is at c.loop-next.invariant in
    rw c.in-Walking.is (rest_on a.s a.frame.now o c.walk-next.result c.walk-next.new.store c.walk-next.ensures).1

pub loop-next-preserved : goal.loop-next-preserved
loop-next-preserved c =
    let a = c.args in
    let o = rw c.in-Walking.is at c.loop-next.invariant in
    (rest_on a.s a.frame.now o c.walk-next.result c.walk-next.new.store c.walk-next.ensures).0
