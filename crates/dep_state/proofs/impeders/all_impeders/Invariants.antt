use Rattle.dep_state.specs.calls.Deps.{rows_of}
use Rattle.dep_state.proofs.AddedRows.{AreRowsTo}
use Rattle.dep_state.proofs.impeders.all_impeders.Given as goal

abbrev pub invariant-loop-k : goal.invariant-loop-k
invariant-loop-k l = AreRowsTo l.list l.events l.k (rows_of l.rows.items)
