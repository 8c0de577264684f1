use Rattle.std.proofs.Common.{◌≡◌, [], replicate}
use Rattle.dep_state.specs.calls.Deps.{rows_of}
use Rattle.dep_state.proofs.impeders.empty_rows.Given as goal

abbrev pub invariant-loop : goal.invariant-loop
invariant-loop l = rows_of l.rows.items ≡ replicate l.counter []
