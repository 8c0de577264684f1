use Rattle.std.proofs.Common.{map, ◌++◌}
use Rattle.std.proofs.lemmas.List.Elements.{Contains-append_right}
use Rattle.armus_base.specs.declared.ids.TaskId.{TaskId}
use Rattle.explain_deadlock.specs.Paragraphs.{explained_tasks, shown_waiting}
use Rattle.explain_tasks.specs.Sayings.{own_said, same_said}
use Rattle.explain_tasks.proofs.EachOnce.{once_has}
use Rattle.explain_tasks.proofs.Filters.{has_map, passed_from}
use Rattle.explain_tasks.proofs.SameSaid.{same_said_is, same_said_itself}
use Rattle.explain_deadlock.proofs.laws.each_has_a_paragraph.Goals as goal

pub returns : goal.returns
returns c f shown t m = (
  once_has same_said same_said_is same_said_itself (map (λ (u : TaskId). own_said f u.0) (shown_waiting f shown ++ explained_tasks f)) (own_said f t.0)
      (has_map (λ (u : TaskId). own_said f u.0) (shown_waiting f shown ++ explained_tasks f) t (Contains-append_right (shown_waiting f shown) (explained_tasks f) t m)),
  passed_from (λ (u : TaskId). same_said (own_said f t.0) (own_said f u.0)) (explained_tasks f) t m (same_said_itself (own_said f t.0)),
)
