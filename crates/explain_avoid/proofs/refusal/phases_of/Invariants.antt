use Rattle.std.proofs.Common.{◌≡◌}
use Rattle.armus_base.specs.Finals.{list_below}
use Rattle.pl_core.specs.calls.Worlds.{state_of}
use Rattle.explain_avoid.proofs.refusal.phases_of.Given as goal

abbrev pub invariant-loop-p : goal.invariant-loop-p
invariant-loop-p l = l.phases.items ≡ list_below ((state_of l.world).phases l.t.0) l.p
