use Rattle.std.proofs.Common.{take}
use Rattle.std.specs.Prelude.{All}
use Rattle.armus_base.specs.Plans.{code_of}
use Rattle.board_runs.specs.calls.TaskSeats.{done_of, own_number}
use Rattle.task_runner.specs.inside.Pooled.{AreForksMarked}
use Rattle.task_runner.proofs.pool_end.have_forked_marked.Given as goal

abbrev pub invariant-loop-task : goal.invariant-loop-task
invariant-loop-task l = All (λ task. AreForksMarked (code_of l.plan (own_number task)) (done_of task) l.marks) (take l.task-index l.tasks)
