-- A record that is not walked has nothing left, and octets are held before the zone alone.
use Rattle.extractor.proofs.Steps.{rested}
use Rattle.extractor.proofs.Unrefused.{walks, walks_held}
use Rattle.extractor.proofs.walking.moved.Goals as goal

pub returns-in_default : goal.returns-in_default
returns-in_default c =
    let a = c.args in
    rw c.at_rest.ensures (rested a.s a.frame.now a.store.now a.x c.in_default.not-Walking)

pub walk-requires : goal.walk-requires
walk-requires c =
    let a = c.args in
    rw (← c.if-held-eq0.true) (walks a.s _ _ _ a.store.now a.frame.now (rw c.in-Walking.is at c.requires.frame_value))

pub complete-requires-clause-walks : goal.complete-requires-clause-walks
complete-requires-clause-walks c =
    let a = c.args in
    let held = c.if-held-eq0.false in
    ((walks_held a.s _ _ _ a.store.now a.frame.now (rw c.in-Walking.is at c.requires.frame_value) held).1, held)

pub returns : goal.returns
returns c =
    let a = c.args in
    let before = walks_held a.s _ _ _ a.store.now a.frame.now (rw c.in-Walking.is at c.requires.frame_value) c.if-held-eq0.false in
    rw (c.in-Walking.is, before.0) c.complete.ensures
