-- `relay::write_destinations` meets its contract: after i turns the front has the first i of the destinations.
use Rattle.std.proofs.Common.{◌≡◌, ◌<◌, ◌∙◌, refl, length, map, sym, ap, eqb, arith, rules, tests}
use Rattle.std.proofs.lemmas.Iterator.{YieldsList-from_slice, YieldsList-from_map}
use Rattle.std.proofs.lemmas.Iterator.Consumers.{YieldsList-at, YieldsList-from_filter, YieldsList-from_enumerate}
use Rattle.std.proofs.lemmas.List.{length-map, map-append, length_push}
use Rattle.relay.specs.Route.{destinations}
use Rattle.relay.proofs.Chains.{turn, end, named_turn, named_end, one_written}
use Rattle.relay.proofs.write_destinations.Goals as goal

here : (c : goal.In-Some) → (c.in-Some.i ≡ length c.loop-i.yielded) × (length c.loop-i.yielded < length (destinations c.args.apid c.args.entries.now))
here c =
    named_turn c.args.apid c.args.entries.now (length c.loop-i.yielded) (c.in-Some.i, c.in-Some.destination)
    (turn c.loop-i.yielded _ c.loop-i.yielded_by _ _ (c.in-Some.i, c.in-Some.destination) c.in-Some.is c.next.ensures.steps
    (YieldsList-at c.into_iter-i-iterator.ensures.into_iter_gives
    (YieldsList-from_enumerate
    (YieldsList-at c.enumerate-i-items.ensures.source
    (YieldsList-from_map _ (λ e. e.destination)
    (YieldsList-at c.map-named.ensures.source
    (YieldsList-from_filter _ (λ e. eqb e.apid c.args.apid) (YieldsList-from_slice c.args.entries.now cc) c.filter.ensures.closure (λ x b q k. search (rules, tests))))
    c.map-named.ensures.closure (λ x r q k. search rules)))
    c.enumerate-i-items.ensures.count)))

pub bounds-out-i : goal.bounds-out-i
bounds-out-i c = let h = here c in omega arith

pub loop-i-preserved : goal.loop-i-preserved
loop-i-preserved c =
    let h = here c in
    let ds = map (λ p. p.1) c.loop-i.yielded in
    let many = length-map c.loop-i.yielded (λ p. p.1) in
    rw (h.0, c.loop-i.invariant, map-append (λ p. p.1) c.loop-i.yielded _, length_push c.loop-i.yielded _)
    (one_written ds c.args.out.now (length c.loop-i.yielded) c.in-Some.destination many (omega arith))

pub returns : goal.returns
returns c =
    let all = named_end c.args.apid c.args.entries.now c.loop-i.yielded
    (end c.loop-i.yielded _ c.loop-i.yielded_by _ _ c.in-None.is c.next.ensures.steps
    (YieldsList-at c.into_iter-i-iterator.ensures.into_iter_gives
    (YieldsList-from_enumerate
    (YieldsList-at c.enumerate-i-items.ensures.source
    (YieldsList-from_map _ (λ e. e.destination)
    (YieldsList-at c.map-named.ensures.source
    (YieldsList-from_filter _ (λ e. eqb e.apid c.args.apid) (YieldsList-from_slice c.args.entries.now cc) c.filter.ensures.closure (λ x b q k. search (rules, tests))))
    c.map-named.ensures.closure (λ x r q k. search rules)))
    c.enumerate-i-items.ensures.count))) in
    c.loop-i.invariant ∙ rw (all, sym (length-map c.loop-i.yielded (λ p. p.1)) ∙ ap length all) refl
