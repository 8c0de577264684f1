use Rattle.std.proofs.Common.{◌≡◌, take}
use Rattle.dep_state.specs.inside.Names.{named}
use Rattle.dep_state.proofs.names.names.Given as goal

abbrev pub invariant-loop-k : goal.invariant-loop-k
invariant-loop-k l = l.names.items ≡ named l.tasks (take l.k-index l.row)
