use Rattle.armus_base.specs.declared.ids.TaskId.{TaskId}
use Rattle.explain_deadlock.specs.Paragraphs.{explained_tasks}
use Rattle.explain_tasks.specs.Sayings.{own_said, same_said}
use Rattle.explain_tasks.proofs.Filters.{passed_is}
use Rattle.explain_tasks.proofs.SameSaid.{same_said_is}
use Rattle.explain_deadlock.proofs.laws.says_what_is_so.Goals as goal

pub returns : goal.returns
returns c f said t m =
    let passed = passed_is (λ (u : TaskId). same_said said (own_said f u.0)) (explained_tasks f) t m in
    (same_said_is said (own_said f t.0) passed.1, passed.0)
