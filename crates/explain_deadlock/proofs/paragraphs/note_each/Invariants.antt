use Rattle.std.proofs.Common.{[], map, take}
use Rattle.explain_tasks.specs.calls.Grouped.{AddsTold, IsSized}
use Rattle.explain_deadlock.specs.inside.Grouped.{own_told, said_in}
use Rattle.explain_deadlock.proofs.paragraphs.note_each.Given as goal

abbrev pub invariant-loop-t : goal.invariant-loop-t
invariant-loop-t l = record {
  noted : AddsTold (said_in (map (own_told l.facts) (take l.t-index l.tasks))) [] l.initial.groups l.groups;
  sized : IsSized l.initial.groups → IsSized l.groups;
}
