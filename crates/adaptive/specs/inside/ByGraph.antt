-- An analysis by one graph.
use Rattle.std.specs.Prelude.{◌≡◌, List}
use Rattle.armus_base.specs.declared.status.Status.{Status}
use Rattle.armus_base.specs.DeadLists.{IsDeadList}
use Rattle.adaptive.specs.declared.analysis.Used.{Used}
use Rattle.adaptive.specs.declared.analysis.Analysis.{Analysis}
use Rattle.adaptive.specs.Choice.{IsEdgeCount}

-- an analysis by one graph
pub record IsAnalysisBy (ss : List Status) (used : Used) (a : Analysis) : Type 0 where
  pub used_is : a.used ≡ used
  pub dead : IsDeadList ss a.dead
  pub edges : IsEdgeCount ss used a.edges
