use Rattle.pl_core.specs.calls.Worlds.{state_of}
use Rattle.avoider.specs.inside.GoingOn.{GoOnBesideFrom}
use Rattle.avoider.proofs.step.behind_those_that_go_on.Given as goal

abbrev pub invariant-loop-u : goal.invariant-loop-u
invariant-loop-u l = GoOnBesideFrom (state_of l.world) l.t.0 l.from l.u
