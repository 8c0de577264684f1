use Rattle.pl_core.specs.inside.Cursors.{AreAt}
use Rattle.pl_core.specs.inside.Walks.{HasWalked, walked}
use Rattle.pl_core.specs.calls.Worlds.{places_at}
use Rattle.pl_core.proofs.walk.CodeWalk.to_places.Given as goal

abbrev pub invariant-loop-t : goal.invariant-loop-t
invariant-loop-t l = record {
  walked : HasWalked l.plan l.places (walked (places_at l.plan l.places) l.t) l.t l.walk.tasks.items l.walk.phases;
  cursors : AreAt l.plan l.t l.walk.tasks.items l.cursors.items;
}
