use Rattle.std.proofs.Common.{sym, ap}
use Rattle.dep_state.proofs.Made.{places_more}
use Rattle.dep_state.proofs.events.places.Goals as goal

pub event_place-at-requires-clause-there : goal.event_place-at-requires-clause-there
event_place-at-requires-clause-there c =
    (c.requires.events.exact _).1 (c.index-list-k.result, (c.loop-k.k, c.loop-k-test.true, sym c.index-list-k.is), ap (λ s. s.event) c.index-list-k.is)

pub loop-k-preserved : goal.loop-k-preserved
loop-k-preserved c =
    let e = ap (λ s. s.event) c.index-list-k.is in
    rw c.in_ok-push.ensures.items (places_more _ _ _ c.loop-k.places.items c.event_place-at.result c.index-list-k.result c.loop-k.invariant c.loop-k-test.true
    c.index-list-k.is c.event_place-at.ensures.inside (rw (← e) at c.event_place-at.ensures.there))
