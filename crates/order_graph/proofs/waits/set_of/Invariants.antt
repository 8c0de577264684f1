use Rattle.std.proofs.Common.{take}
use Rattle.std.specs.Prelude.{Contains, ◌↔◌}
use Rattle.armus_base.specs.declared.ids.TaskId.{TaskId}
use Rattle.dep_state.specs.inside.Names.{named}
use Rattle.order_graph.proofs.waits.set_of.Given as goal

abbrev pub invariant-loop-k : goal.invariant-loop-k
invariant-loop-k l = (u : TaskId) → Contains l.row u ↔ Contains (named l.tasks (take l.k-index l.places)) u
