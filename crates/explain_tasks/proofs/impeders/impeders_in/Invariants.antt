use Rattle.std.proofs.Common.{◌≡◌}
use Rattle.armus_base.specs.Finals.{given_below}
use Rattle.pl_core.specs.calls.Worlds.{state_of}
use Rattle.explain_tasks.specs.Impeders.{impeder_by}
use Rattle.explain_tasks.proofs.impeders.impeders_in.Given as goal

abbrev pub invariant-loop-u : goal.invariant-loop-u
invariant-loop-u l = l.all.items ≡ given_below (λ v. impeder_by l.event v ((state_of l.world).phases v l.event.p.0)) l.u
