use Rattle.std.proofs.Common.{sym, subst}
use Rattle.std.specs.Prelude.{All}
use Rattle.std.proofs.lemmas.List.Elements.{All-push}
use Rattle.task_runner.specs.inside.Pooled.{IsPooled}
use Rattle.task_runner.proofs.pool.tasks_of.Goals as goal

pub loop-task-preserved : goal.loop-task-preserved
loop-task-preserved g c =
    let P = IsPooled g.N.BoardName.board in
    subst (All P) (sym c.in_ok-push.ensures.items)
    (All-push P c.loop-task.tasks.items c.into_task.result c.loop-task.invariant c.into_task.ensures.pooled)
