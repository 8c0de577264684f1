use Rattle.std.proofs.Common.{Err, arith, ◌∙◌, ap}
use Rattle.std.proofs.lemmas.Result.{err_from_is_err_and}
use Rattle.pl_plan.proofs.Beginning.{tasks_done, tasks_on, tasks_fail}
use Rattle.pl_plan.proofs.tasks.unfold_tasks.Goals as goal

pub returns-in_err-unfold_task-clause-follows : goal.returns-in_err-unfold_task-clause-follows
returns-in_err-unfold_task-clause-follows c =
    let p = err_from_is_err_and c.from_residual.result c.from_residual.ensures.1 in
    tasks_fail c.args.two c.args.checker.now c.loop-t.t c.loop-t.checker c.loop-t.invariant (omega arith) c.in_err-unfold_task.field-0.0
    c.unfold_task.new.checker _ c.in_err-unfold_task.ensures.follows c.from_residual.result (p.1 ∙ ap Err p.2)

pub loop-t-preserved : goal.loop-t-preserved
loop-t-preserved c = tasks_on c.args.two c.args.checker.now c.loop-t.t c.loop-t.checker c.loop-t.invariant (omega arith) c.unfold_task.new.checker
    c.in_ok-unfold_task.ensures.keeps c.in_ok-unfold_task.ensures.follows

pub returns-clause-follows : goal.returns-clause-follows
returns-clause-follows c = tasks_done c.args.two c.args.checker.now c.loop-t.t c.loop-t.checker c.loop-t.invariant (omega arith)
