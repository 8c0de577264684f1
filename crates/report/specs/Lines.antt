-- The lines of a report.
use Rattle.std.specs.Prelude.{ℕ, List, [], ◌++◌, codes, decimal, flat_map}
use Rattle.std.specs.List.{enumerate_from}
use Rattle.armus_base.specs.declared.ids.TaskId.{TaskId}
use Rattle.pl_syntax.specs.Printed.{line}
use Rattle.report.specs.Words.{task_word, event_word}
use Rattle.report.specs.declared.counts.StandingCounts.{StandingCounts}
use Rattle.adaptive.specs.declared.analysis.Used.{Used}
use Rattle.adaptive.specs.declared.analysis.Used.TheVariants.{Wfg, Sg, Grg}
use Rattle.report.specs.declared.standing.Standing.{Standing}
use Rattle.report.specs.declared.standing.Standing.TheVariants.{Done, Dead, Held, Refused, Unforked}

-- the line that counts how the tasks stand: tasks 4 done 0 dead 4 held 0 refused 0 unforked 0
abbrev pub counts_line : StandingCounts → List ℕ
counts_line c =
    line
    (codes "tasks " ++ decimal c.tasks ++ codes " done " ++ decimal c.done ++ codes " dead " ++ decimal c.dead ++ codes " held " ++ decimal c.held
    ++ codes " refused "
    ++ decimal c.refused
    ++ codes " unforked "
    ++ decimal c.unforked)

-- the line of task t, if it is not done, with the event that it waits on or was refused: t0 dead p1@1
abbrev pub task_line : ℕ → Standing → List ℕ
task_line t Done = []
task_line t (Dead e) = line (task_word t ++ codes " dead " ++ event_word e)
task_line t (Held e) = line (task_word t ++ codes " held " ++ event_word e)
task_line t (Refused e) = line (task_word t ++ codes " refused " ++ event_word e)
task_line t Unforked = line (task_word t ++ codes " unforked")

-- the lines of all tasks, in order of number
abbrev pub task_lines : List Standing → List ℕ
task_lines all = flat_map (λ (t, s). task_line t s) (enumerate_from 0 all)

-- the tasks of a cycle, in the order of the walk: cycle t0 t1
abbrev pub cycle_line : List TaskId → List ℕ
cycle_line cycle = line (codes "cycle" ++ flat_map (λ t. codes " " ++ task_word t.0) cycle)

-- the short name of a graph
abbrev pub graph_name : Used → List ℕ
graph_name Wfg = codes "wfg"
graph_name Sg = codes "sg"
graph_name Grg = codes "grg"

-- the graph, and its number of edges: graph sg 2
abbrev pub graph_line : Used → ℕ → List ℕ
graph_line used edges = line (codes "graph " ++ graph_name used ++ codes " " ++ decimal edges)
