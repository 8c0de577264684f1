-- The report of a final state.
use Rattle.std.specs.Prelude.{◌≡◌, ℕ, ◌≤◌, ◌⊎◌, List, [], ◌++◌}
use Rattle.armus_base.specs.declared.ending.Final.{Final}
use Rattle.armus_base.specs.declared.ids.TaskId.{TaskId}
use Rattle.armus_base.specs.declared.status.Status.{Status}
use Rattle.armus_base.specs.Deadlocks.{IsDeadBy}
use Rattle.armus_base.specs.Relations.{IsWalkCycle}
use Rattle.report.specs.Counts.{counts_of}
use Rattle.adaptive.specs.Choice.{IsUsed, IsEdgeCount}
use Rattle.verdict.specs.Cycles.{IsDeadStep}
use Rattle.report.specs.Lines.{counts_line, task_lines, cycle_line, graph_line}
use Rattle.report.specs.Standings.{AreStandings}
use Rattle.adaptive.specs.declared.analysis.Used.{Used}
use Rattle.adaptive.specs.declared.analysis.Wanted.{Wanted}
use Rattle.report.specs.declared.standing.Standing.{Standing}

-- the least dead task
pub record IsLeastDead (blocked : List Status) (t : TaskId) : Type 0 where
  pub dead : IsDeadBy blocked t.0
  pub least : (u : ℕ) → IsDeadBy blocked u → t.0 ≤ u

-- some task is dead
abbrev pub IsSomeDead : List Status → Type 0
IsSomeDead blocked = (t : ℕ) × IsDeadBy blocked t

-- the cycle: the walk from the least dead task, each time to the least dead task that impedes, from the task on to which it first comes back
abbrev pub IsReportedCycle : List Status → List TaskId → Type 0
IsReportedCycle blocked cycle = (start : TaskId) × IsLeastDead blocked start × IsWalkCycle (IsDeadStep blocked) start cycle

-- the cycle's line, which there is where a task is dead
abbrev pub IsCycleText : List Status → List ℕ → Type 0
IsCycleText blocked text =
    ((IsSomeDead blocked → ⊥) × (text ≡ [])) ⊎ ((cycle : List TaskId) × IsReportedCycle blocked cycle × (text ≡ cycle_line cycle))

-- the graph's line: the graph that is wanted, or the one chosen, with its number of edges
abbrev pub IsGraphText : List Status → Wanted → List ℕ → Type 0
IsGraphText blocked wanted text =
    (used : Used) × (edges : ℕ) × IsUsed blocked wanted used × IsEdgeCount blocked used edges × (text ≡ graph_line used edges)

-- The report of a final state: a line that counts how the tasks stand, a line for each task that is not done, the line of a cycle where a task
-- is dead, and the line of the graph.
pub record IsReport (end : Final) (wanted : Wanted) (text : List ℕ) : Type 0 where
  pub standings : List Standing
  pub cycle_text : List ℕ
  pub graph_text : List ℕ
  pub stand : AreStandings (IsDeadBy end.blocked) end.ends standings
  pub cycle : IsCycleText end.blocked cycle_text
  pub graph : IsGraphText end.blocked wanted graph_text
  pub lines : text ≡ counts_line (counts_of standings) ++ task_lines standings ++ cycle_text ++ graph_text
