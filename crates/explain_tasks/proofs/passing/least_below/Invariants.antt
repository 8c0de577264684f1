use Rattle.std.proofs.Common.{◌≡◌, [], Bool}
use Rattle.armus_base.specs.declared.ids.TaskId.{TaskId}
use Rattle.explain_tasks.specs.calls.Passing.{AnswersAsTest, passing_below}
use Rattle.explain_tasks.proofs.passing.least_below.Given as goal

abbrev pub invariant-loop-t : goal.invariant-loop-t
invariant-loop-t g l = (p : TaskId → Bool) → AnswersAsTest (goal.F-post g l.test) p → passing_below p l.t ≡ []
