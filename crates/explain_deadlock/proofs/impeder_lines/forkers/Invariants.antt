use Rattle.std.proofs.Common.{◌≡◌}
use Rattle.std.specs.Prelude.{filter}
use Rattle.armus_base.specs.declared.ids.TaskId.{TaskId}
use Rattle.armus_base.specs.Finals.{list_below}
use Rattle.explain_deadlock.specs.ImpederLines.{is_forker_of}
use Rattle.explain_deadlock.proofs.impeder_lines.forkers.Given as goal

abbrev pub invariant-loop-u : goal.invariant-loop-u
invariant-loop-u l = l.all.items ≡ filter (λ (u : TaskId). is_forker_of l.facts l.tasks u.0) (list_below (λ u. record { 0 = u }) l.u)
