use Rattle.armus_base.specs.Places.{done_by}
use Rattle.pl_core.specs.calls.Worlds.{places_of, state_of}
use Rattle.explain_clock.proofs.Told.{AreTold}
use Rattle.explain_clock.proofs.waits.waits_of.Given as goal

abbrev pub invariant-loop-t : goal.invariant-loop-t
invariant-loop-t l = AreTold l.origins.waits l.ops l.world.plan (state_of l.world) (done_by (places_of l.world)) l.t l.all.items
