use Rattle.std.proofs.Common.{◌≡◌, None, replicate}
use Rattle.explain_facts.proofs.phase_rows.no_phases.Given as goal

abbrev pub invariant-loop : goal.invariant-loop
invariant-loop l = l.row.items ≡ replicate l.counter None
