-- Activities of which the same is said, and lists of activities as they are written: activities 1, 3 and 5 to 9.
use Rattle.std.specs.Prelude.{ℕ, ◌==◌, if◌then◌else◌, List, ◌++◌, codes, decimal, filter, flat_map, length, map}
use Rattle.std.specs.List.{enumerate_from}
use Rattle.std.specs.Str.{bytes_eq}
use Rattle.armus_base.specs.declared.ids.TaskId.{TaskId}
use Rattle.explain_tasks.specs.Groups.{each_once}
use Rattle.explain_tasks.specs.TaskLists.{by_number, items_of, runs_of, separator}
use Rattle.explain_tasks.specs.declared.task_lists.Run.{Run}

-- ---- lists

-- an item: one activity, 5, or three and more, 5 to 9
abbrev pub number_item : Run → List ℕ
number_item run = if run.from == run.to then decimal run.from else decimal run.from ++ codes " to " ++ decimal run.to

-- items, one behind the other
abbrev pub number_items : List Run → List ℕ
number_items items = flat_map (λ (k, run). separator (length items) k ++ number_item run) (enumerate_from 0 items)

-- a list of activities in order of number: activity 1, or activities 1, 3 and 5 to 9
abbrev pub activity_list : List TaskId → List ℕ
activity_list ts = by_number (length ts) (codes "activity ") (codes "activities ") ++ number_items (flat_map items_of (runs_of ts))

-- ---- who is told together

-- what is said of these activities, each thing once, in the order in which it first comes
abbrev pub things_said : (ℕ → List ℕ) → List TaskId → List (List ℕ)
things_said says ts = each_once bytes_eq (map (λ (t : TaskId). says t.0) ts)

-- those of these activities of whom this is said
abbrev pub those_said : (ℕ → List ℕ) → List TaskId → List ℕ → List TaskId
those_said says ts said = filter (λ (t : TaskId). bytes_eq said (says t.0)) ts
