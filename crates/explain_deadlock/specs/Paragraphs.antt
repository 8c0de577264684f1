-- The paragraphs of an explanation.
use Rattle.std.specs.Prelude.{ℕ, List, [], ◌∷◌, ◌++◌, codes, filter, flat_map, length, map}
use Rattle.armus_base.specs.declared.ids.TaskId.{TaskId}
use Rattle.armus_base.specs.States.{Phases}
use Rattle.pl_syntax.specs.Printed.{line}
use Rattle.explain_tasks.specs.Facts.{FactsValue, stands_unforked, is_waiting, situation_of, tasks_that}
use Rattle.explain_tasks.specs.Groups.{each_once}
use Rattle.explain_deadlock.specs.ImpederLines.{forkers_of, forking_words, impeder_lines}
use Rattle.explain_tasks.specs.Places.{named_tasks}
use Rattle.explain_tasks.specs.Sayings.{Said, own_said, same_said}
use Rattle.explain_tasks.specs.TaskLists.{by_number}

-- the tasks that are not done: first those that wait, then those that were not forked
abbrev pub explained_tasks : FactsValue → List TaskId
explained_tasks f = tasks_that is_waiting f ++ tasks_that stands_unforked f

-- the shown tasks that wait
abbrev pub shown_waiting : FactsValue → List TaskId → List TaskId
shown_waiting f shown = filter (λ (t : TaskId). is_waiting (situation_of f t.0)) shown

-- what is said in the paragraphs, in their order: first of the shown tasks that wait, then of the others that wait, then of those that were not forked
abbrev pub sayings_of : FactsValue → List TaskId → List Said
sayings_of f shown = each_once same_said (map (λ (t : TaskId). own_said f t.0) (shown_waiting f shown ++ explained_tasks f))

-- the tasks of which this is said
abbrev pub tasks_of : FactsValue → Said → List TaskId
tasks_of f said = filter (λ (t : TaskId). same_said said (own_said f t.0)) (explained_tasks f)

-- the lines that say this of these tasks: 6:1: t is not forked yet: t0 would fork it and is held at 5:1
abbrev pub own_lines : FactsValue → Said → List TaskId → List ℕ
own_lines f said tasks =
    line
    (said.front ++ codes ": " ++ named_tasks f tasks ++ by_number (length tasks) (codes " is ") (codes " are ") ++ said.words
    ++ forking_words f said.forking (length tasks) (forkers_of f tasks))

-- the lines of the impeders of the first of these tasks: all of them await the same event
abbrev pub lines_of_impeders : FactsValue → (ℕ → Phases) → List TaskId → List ℕ
lines_of_impeders f phases [] = []
lines_of_impeders f phases (t ∷ rest) = impeder_lines f phases (length (t ∷ rest)) t.0

-- the paragraph that says this: of the tasks of which it is so, and of their impeders
abbrev pub paragraph : FactsValue → (ℕ → Phases) → Said → List ℕ
paragraph f phases said = own_lines f said (tasks_of f said) ++ lines_of_impeders f phases (tasks_of f said)

-- all paragraphs, where these tasks are shown
abbrev pub paragraphs : FactsValue → (ℕ → Phases) → List TaskId → List ℕ
paragraphs f phases shown = flat_map (paragraph f phases) (sayings_of f shown)
