-- The words for tasks and for where they stand.
use Rattle.std.specs.Prelude.{ℕ, List, [], Option, Some, None}
use Rattle.armus_base.specs.declared.ids.TaskId.{TaskId}
use Rattle.explain_facts.specs.declared.account.Drawn.{Drawn}
use Rattle.explain_facts.specs.declared.account.CodeEnd.{CodeEnd}
use Rattle.explain_facts.specs.declared.account.Forked.{Forked}
use Rattle.explain_facts.specs.declared.account.Waiting.{Waiting}
use Rattle.source_map.specs.PlaceWords.{front_words, place_words}
use Rattle.source_map.specs.declared.place.TextPlace.{TextPlace}
use Rattle.explain_tasks.specs.Names.{named_phaser_words, named_task_words}
use Rattle.explain_tasks.specs.TaskLists.{tasks_words}
use Rattle.explain_tasks.specs.Facts.{FactsValue, drawing_of, ending_of, forking_of, wait_of}

-- a place within a line: 20:7
abbrev pub place_in_line : FactsValue → TextPlace → List ℕ
place_in_line f at = place_words f.text at

-- a place with which a line begins: k.pl:20:7
abbrev pub front_in : FactsValue → TextPlace → List ℕ
front_in f at = front_words f.text f.file at

-- what words say of the thing, if there is one
abbrev pub said_of : {A : Type 0} → (A → List ℕ) → Option A → List ℕ
said_of words None = []
said_of words (Some x) = words x

-- the name that the `newTid` of a task gives; task 0 has none
abbrev pub drawn_name : FactsValue → ℕ → List ℕ
drawn_name f t = said_of (λ (d : Drawn). d.name) (drawing_of f t)

-- a task: worker, or worker (t3)
abbrev pub named_task : FactsValue → ℕ → List ℕ
named_task f t = named_task_words f.account.names t

-- a phaser: left, or left (p0)
abbrev pub named_phaser : FactsValue → ℕ → List ℕ
named_phaser f q = named_phaser_words f.account.names q

-- a list of tasks: t0, left and worker (t3 to t7)
abbrev pub named_tasks : FactsValue → List TaskId → List ℕ
named_tasks f tasks = tasks_words f.account.names tasks

-- the place where task t waits
abbrev pub wait_place : FactsValue → ℕ → List ℕ
wait_place f t = said_of (λ (w : Waiting). place_in_line f w.at) (wait_of f t)

-- the place where task t is forked
abbrev pub fork_place : FactsValue → ℕ → List ℕ
fork_place f t = said_of (λ (x : Forked). place_in_line f x.at) (forking_of f t)

-- the place where task t was drawn
abbrev pub drawn_place : FactsValue → ℕ → List ℕ
drawn_place f t = said_of (λ (d : Drawn). place_in_line f d.at) (drawing_of f t)

-- the place where task t ended
abbrev pub end_words : FactsValue → ℕ → List ℕ
end_words f t = said_of (λ (e : CodeEnd). place_in_line f e.at) (ending_of f t)
