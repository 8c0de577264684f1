use Rattle.std.proofs.Common.{◌≡◌, take}
use Rattle.std.specs.Prelude.{map}
use Rattle.dep_state.specs.inside.Names.{named}
use Rattle.dep_state.specs.calls.Deps.{rows_of}
use Rattle.dep_state.proofs.names.all_names.Given as goal

abbrev pub invariant-loop-row : goal.invariant-loop-row
invariant-loop-row l = rows_of l.all.items ≡ map (named l.tasks) (take l.row-index (rows_of l.rows))
