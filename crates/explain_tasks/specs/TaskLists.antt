-- Lists of tasks, as they are written: t0, left and worker (t1, t3 and t5 to t9).
use Rattle.std.specs.Prelude.{ℕ, zero, ◌+◌, Bool, false, Option, Some, List, [], ◌∷◌, ◌++◌, ◌==◌, if◌then◌else◌, codes, flat_map, length}
use Rattle.std.proofs.Common.{suc}
use Rattle.std.specs.List.{enumerate_from}
use Rattle.armus_base.specs.declared.ids.TaskId.{TaskId}
use Rattle.report.specs.Words.{task_word}
use Rattle.std.specs.Str.{bytes_eq}
use Rattle.explain_facts.specs.declared.names.GivenName.{GivenName}
use Rattle.explain_facts.specs.declared.names.GivenNames.{GivenNames}
use Rattle.explain_tasks.specs.Names.{named_words, task_name}
use Rattle.explain_tasks.specs.declared.task_lists.Run.{Run}

-- the runs of consecutive numbers of a list that goes on with these numbers, where its last run so far is this one
abbrev pub runs_behind : Run → List TaskId → List Run
runs_behind run [] = run ∷ []
runs_behind run (t ∷ rest) =
    if t.0 == run.to + 1 then runs_behind (record { from = run.from; to = t.0 }) rest else run ∷ runs_behind (record { from = t.0; to = t.0 }) rest

-- the runs of consecutive numbers of an ascending list
abbrev pub runs_of : List TaskId → List Run
runs_of [] = []
runs_of (t ∷ rest) = runs_behind (record { from = t.0; to = t.0 }) rest

-- the items of a run: a run of two is two items, and every other run one
abbrev pub items_of : Run → List Run
items_of run =
    if run.to == run.from + 1 then record { from = run.from; to = run.from } ∷ record { from = run.to; to = run.to } ∷ [] else run ∷ []

-- an item: one task, t5, or three and more, t5 to t9
abbrev pub item_words : Run → List ℕ
item_words run = if run.from == run.to then task_word run.from else task_word run.from ++ codes " to " ++ task_word run.to

-- what stands before item k of n: nothing before the first, else a comma, and before the last the word and
abbrev pub separator : ℕ → ℕ → List ℕ
separator n zero = []
separator n (suc k) = if suc (suc k) == n then codes " and " else codes ", "

-- items, one behind the other
abbrev pub joined_items : List Run → List ℕ
joined_items items = flat_map (λ (k, run). separator (length items) k ++ item_words run) (enumerate_from 0 items)

-- the numbers of a list of tasks, in order: t1, t3 and t5 to t9
abbrev pub list_words : List TaskId → List ℕ
list_words tasks = joined_items (flat_map items_of (runs_of tasks))

-- ---- with their names

-- both have a name, and the same one
abbrev pub have_same_name : Option GivenName → Option GivenName → Bool
have_same_name (Some a) (Some b) = bytes_eq a.name b.name
have_same_name _ _ = false

-- the parts of a list that goes on with these tasks, where its last part so far is this one, which ends with task last
abbrev pub parts_behind : GivenNames → List TaskId → TaskId → List TaskId → List (List TaskId)
parts_behind names part last [] = part ∷ []
parts_behind names part last (t ∷ rest) =
    if have_same_name (task_name names last.0) (task_name names t.0) then parts_behind names (part ++ t ∷ []) t rest
    else part ∷ parts_behind names (t ∷ []) t rest

-- the parts of a list: in each are tasks that follow each other there and have the same name
abbrev pub parts_of : GivenNames → List TaskId → List (List TaskId)
parts_of names [] = []
parts_of names (t ∷ rest) = parts_behind names (t ∷ []) t rest

-- a part: t0, left, or worker (t1, t3 and t5 to t9)
abbrev pub part_words : GivenNames → List TaskId → List ℕ
part_words names [] = []
part_words names (t ∷ rest) = named_words (list_words (t ∷ rest)) (task_name names t.0)

-- parts, one behind the other
abbrev pub joined_parts : GivenNames → List (List TaskId) → List ℕ
joined_parts names parts = flat_map (λ (k, part). separator (length parts) k ++ part_words names part) (enumerate_from 0 parts)

-- a list of tasks in order of number: t0, left and worker (t1, t3 and t5 to t9)
abbrev pub tasks_words : GivenNames → List TaskId → List ℕ
tasks_words names tasks = joined_parts names (parts_of names tasks)

-- ---- how many they are

-- the word for one, or the word for more
abbrev pub by_number : ℕ → List ℕ → List ℕ → List ℕ
by_number n one more = if n == 1 then one else more
