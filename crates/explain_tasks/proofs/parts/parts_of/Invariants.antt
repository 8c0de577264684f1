use Rattle.std.proofs.Common.{◌≡◌, ◌++◌, drop, map, Vec, Global}
use Rattle.armus_base.specs.declared.ids.TaskId.{TaskId}
use Rattle.explain_tasks.specs.TaskLists.{parts_behind}
use Rattle.explain_tasks.proofs.parts.parts_of.Given as goal

abbrev pub invariant-loop-t : goal.invariant-loop-t
invariant-loop-t l =
    map (λ (part : Vec TaskId Global). part.items) l.parts.items ++ parts_behind l.names l.part.items l.last (drop l.t-index l.rest)
    ≡ parts_behind l.names l.initial.part.items l.initial.last l.rest
