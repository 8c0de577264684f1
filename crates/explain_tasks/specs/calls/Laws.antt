-- What is proved of the lists of tasks.
use Rattle.std.specs.Prelude.{◌≡◌, ◌≢◌, ◌⊎◌, ◌≤◌, ◌+◌, ◌-◌, List, Contains, flat_map}
use Rattle.armus_base.specs.declared.ids.TaskId.{TaskId}
use Rattle.armus_base.specs.Finals.{list_below}
use Rattle.armus_base.specs.Relations.{IsWalk}
use Rattle.explain_tasks.specs.declared.task_lists.Run.{Run}
use Rattle.explain_tasks.specs.TaskLists.{items_of, runs_of}

-- the tasks from the first to the last number of a run
abbrev pub tasks_in : Run → List TaskId
tasks_in run = list_below (λ k. record { 0 = run.from + k }) (run.to + 1 - run.from)

-- the items of a list name just its tasks, in their order
abbrev pub ItemsNameTheTasks : Type 0
ItemsNameTheTasks = (tasks : List TaskId) → flat_map tasks_in (flat_map items_of (runs_of tasks)) ≡ tasks

-- between two runs a number is missing: no two of them are one
abbrev pub RunsAreApart : Type 0
RunsAreApart = (tasks : List TaskId) → IsWalk (λ (before behind : Run). behind.from ≢ before.to + 1) (runs_of tasks)

-- an item is one task, or three and more
abbrev pub ItemsAreNoPairs : Type 0
ItemsAreNoPairs = (tasks : List TaskId) (item : Run) → Contains (flat_map items_of (runs_of tasks)) item → (item.from ≡ item.to) ⊎ (item.from + 2 ≤ item.to)
