-- What is said of tasks, together.
use Rattle.std.specs.Prelude.{List, ◌++◌, map}
use Rattle.armus_base.specs.declared.ids.TaskId.{TaskId}
use Rattle.explain_tasks.specs.Facts.{FactsValue}
use Rattle.explain_deadlock.specs.Paragraphs.{explained_tasks, shown_waiting}
use Rattle.explain_tasks.specs.Sayings.{Said, own_said}
use Rattle.explain_tasks.specs.declared.grouping.Grouping.{Grouping}
use Rattle.explain_tasks.specs.calls.Grouped.{IsGrouped, Told}

-- a task, and what its paragraph says of it
abbrev pub own_told : FactsValue → TaskId → Told
own_told f t = record { said = own_said f t.0; task = t }

-- what these told is said of each
abbrev pub said_in : List Told → List Said
said_in told = map (λ (p : Told). p.said) told

-- the groups of the paragraphs, where these tasks are shown
abbrev pub AreParagraphs : FactsValue → List TaskId → Grouping → Type 0
AreParagraphs f shown g =
    IsGrouped (map (λ (t : TaskId). own_said f t.0) (shown_waiting f shown ++ explained_tasks f)) (map (own_told f) (explained_tasks f)) g
