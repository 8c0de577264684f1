-- The words of which lines are made: tasks and events.
use Rattle.std.specs.Prelude.{ℕ, List, ◌++◌, codes, decimal}
use Rattle.armus_base.specs.declared.event.Event.{Event}

-- a task: t3
abbrev pub task_word : ℕ → List ℕ
task_word t = codes "t" ++ decimal t

-- an event: p0@1
abbrev pub event_word : Event → List ℕ
event_word e = codes "p" ++ decimal e.p.0 ++ codes "@" ++ decimal e.n
