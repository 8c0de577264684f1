use Rattle.std.proofs.Common.{length}
use Rattle.explain_facts.proofs.PhasesInRows.{AreEmptyRows}
use Rattle.explain_facts.proofs.phase_rows.PhaseRows.none.Given as goal

abbrev pub invariant-loop : goal.invariant-loop
invariant-loop l = AreEmptyRows l.counter (length l.plan.makers) l.rows.items
