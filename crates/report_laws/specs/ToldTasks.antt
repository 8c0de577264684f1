-- What an explanation tells of each task where the run has ended.
use Rattle.std.specs.Prelude.{◌≡◌, ◌↔◌, ◌<◌, ◌++◌, ℕ, Contains, List, flat_map, length, slice_get}
use Rattle.armus_base.specs.declared.ending.TaskEnd.TheVariants.{Done}
use Rattle.armus_base.specs.declared.event.Event.{Event}
use Rattle.armus_base.specs.declared.ids.TaskId.{TaskId}
use Rattle.armus_base.specs.AgreementLaws.{WaitsForTask}
use Rattle.armus_base.specs.Counts.{IsDistinct}
use Rattle.armus_base.specs.Deadlocks.{IsPublishedOn}
use Rattle.armus_base.specs.Finals.{end_of}
use Rattle.armus_base.specs.Plans.{Plan}
use Rattle.armus_base.specs.Runs.{state_after}
use Rattle.armus_base.specs.States.{State}
use Rattle.explain_deadlock.specs.declared.outcome.WaitVerdict.{WaitVerdict}
use Rattle.explain_deadlock.specs.Notes.{verdict_end}
use Rattle.explain_deadlock.specs.ImpederLines.{group_line, rest_line}
use Rattle.explain_deadlock.specs.Paragraphs.{lines_of_impeders, own_lines, tasks_of}
use Rattle.explain_tasks.specs.Facts.{FactsValue, facts_of}
use Rattle.explain_tasks.specs.Sayings.{Said, own_said}
use Rattle.program_io.specs.Texts.{Text}
use Rattle.explain.specs.Explained.{IsExplanationOf}
use Rattle.explain.specs.Requests.{Form}

-- The lines behind the first one of a paragraph, which is of these tasks, name in groups, or as the rest, just those that keep task t waiting in the state, each
-- once.
pub record NamesImpeders (f : FactsValue) (s : State) (tasks : List TaskId) (t : TaskId) : Type 0 where
  pub told : List Said
  pub group : Said → List TaskId
  pub rest : List TaskId
  pub lines_are : lines_of_impeders f s.phases tasks ≡ flat_map (λ said. group_line f (length tasks) said (group said)) told ++ rest_line f rest
  pub once : IsDistinct (flat_map group told ++ rest)
  pub exact : (u : TaskId) → Contains (flat_map group told ++ rest) u ↔ WaitsForTask s t.0 u.0

-- The lines have behind a front a paragraph for each of these things that are said, of the tasks of which it is said, none of them twice, and behind these a hint
-- at most, or notes. The tasks that are not done in the state, and no others, stand in one each, which is of tasks that stand alike; and it names those that keep them
-- waiting, if they wait.
pub record TellsOfEach (f : FactsValue) (plan : Plan) (s : State) (lines : Text) : Type 0 where
  pub front : Text
  pub said : List Said
  pub lines_are : (v : WaitVerdict)
      × (lines ≡ front ++ flat_map (λ x. own_lines f x (tasks_of f x) ++ lines_of_impeders f s.phases (tasks_of f x)) said ++ verdict_end f plan s.phases v)
  pub once : IsDistinct said
  pub told : (t : TaskId) → t.0 < length plan.parents → (end_of s t.0 ≡ Done → ⊥) → Contains said (own_said f t.0) × Contains (tasks_of f (own_said f t.0)) t
  pub only : (t : TaskId) (x : Said) → Contains (tasks_of f x) t → (x ≡ own_said f t.0) × (t.0 < length plan.parents) × (end_of s t.0 ≡ Done → ⊥)
  pub alike : (t u : TaskId) (x : Said) → Contains (tasks_of f x) t → Contains (tasks_of f x) u → slice_get f.standings t.0 ≡ slice_get f.standings u.0
  pub named : (t : TaskId) (e : Event) → IsPublishedOn s t.0 e → NamesImpeders f s (tasks_of f (own_said f t.0)) t

-- so does the whole explanation of a text, in the state in which its run ends
abbrev pub EachTaskIsTold : Type 0
EachTaskIsTold =
    (form : Form) (text : Text) (status : ℕ) (lines : Text) (e : IsExplanationOf form text status lines) →
    TellsOfEach (facts_of text form.file e.explains.tells.account e.explains.tells.explains.standings) e.plan (state_after e.steps) e.explains.whole
