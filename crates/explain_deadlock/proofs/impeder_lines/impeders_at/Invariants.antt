use Rattle.std.proofs.Common.{◌≡◌, take}
use Rattle.std.specs.Prelude.{filter}
use Rattle.explain_deadlock.specs.ImpederLines.{is_this_impeder}
use Rattle.explain_deadlock.proofs.impeder_lines.impeders_at.Given as goal

abbrev pub invariant-loop-impeder : goal.invariant-loop-impeder
invariant-loop-impeder l = l.found.items ≡ filter (is_this_impeder l.task) (take l.impeder-index l.impeders)
