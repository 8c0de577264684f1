use Rattle.verdict.proofs.walk.next_dead.Goals as goal

pub least_marked-requires-clause-inside : goal.least_marked-requires-clause-inside
least_marked-requires-clause-inside c = rw c.requires.walkable.sized c.impeders_at.ensures.inside

pub least_marked-requires-clause-ascends : goal.least_marked-requires-clause-ascends
least_marked-requires-clause-ascends c = rw c.impeders_at.ensures.impeders (λ j k below lt. c.requires.walkable.ascend c.awaits_at-event.result j k 0 below lt)
