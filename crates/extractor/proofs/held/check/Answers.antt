-- The record's test is that of its numbers.
use Rattle.std.proofs.Common.{refl, le-ltb}
use Rattle.octets.specs.Basics.{first}
use Rattle.extractor.proofs.Refused.{reached_by}
use Rattle.extractor.proofs.held.check.Goals as goal

pub returns-then-not-reachable : goal.returns-then-not-reachable
unfolding first
returns-then-not-reachable c =
    let a = c.args in
    let test = reached_by a.s a.store.now a.x c.last_in.ensures c.held_in.ensures c.at_in.ensures (c.reachable.ensures a.store.now (rw c.held_in.ensures c.requires) refl) in
    rw (test, le-ltb _ _ c.if-room-s.false, c.if-not-reachable.true) refl

pub returns : goal.returns
unfolding first
returns c =
    let a = c.args in
    let test = reached_by a.s a.store.now a.x c.last_in.ensures c.held_in.ensures c.at_in.ensures (c.reachable.ensures a.store.now (rw c.held_in.ensures c.requires) refl) in
    rw (test, le-ltb _ _ c.if-room-s.false, c.if-not-reachable.false) refl
