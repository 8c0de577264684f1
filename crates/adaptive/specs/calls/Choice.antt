-- Which graph is used, and how many edges it has.
use Rattle.std.specs.Prelude.{ℕ, List}
use Rattle.armus_base.specs.declared.status.Status.{Status}
use Rattle.armus_base.specs.DeadLists.{IsDeadList}
use Rattle.adaptive.specs.declared.analysis.Wanted.{Wanted}
use Rattle.adaptive.specs.declared.analysis.Analysis.{Analysis}
use Rattle.adaptive.specs.Choice.{IsEdgeCount, IsUsed}

-- the dead tasks, whatever graph is used; the graph that is used, and its number of edges
pub record IsAnalysis (ss : List Status) (wanted : Wanted) (a : Analysis) : Type 0 where
  pub dead : IsDeadList ss a.dead
  pub used : IsUsed ss wanted a.used
  pub edges : IsEdgeCount ss a.used a.edges
