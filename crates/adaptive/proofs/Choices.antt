-- The choice of Auto.
use Rattle.std.proofs.Common.{◌≡◌, ℕ, List, sym, subst, arith}
use Rattle.armus_base.specs.declared.status.Status.{Status}
use Rattle.armus_base.specs.Graphs.{StaysSmall}
use Rattle.state_graph.specs.calls.BoundedEnds.{IsFirstLarge}
use Rattle.adaptive.specs.inside.ByGraph.{IsAnalysisBy}
use Rattle.adaptive.specs.calls.Choice.{IsAnalysis}
use Rattle.adaptive.specs.Choice.{IsUsed, IsChoice, IsEdgeCount}
use Rattle.adaptive.specs.declared.analysis.Wanted.{Wanted}
use Rattle.adaptive.specs.declared.analysis.Wanted.TheVariants.{Auto}
use Rattle.adaptive.specs.declared.analysis.Used.{Used}
use Rattle.adaptive.specs.declared.analysis.Used.TheVariants.{Wfg, Sg}
use Rattle.adaptive.specs.declared.analysis.Analysis.{Analysis}

module _ (ss : List Status) (wanted : Wanted) (auto_is : wanted ≡ Auto) (a : Analysis) where
  chosen : (used : Used) → IsAnalysisBy ss used a → IsChoice ss used → IsAnalysis ss wanted a
  chosen used h choice =
      record {
        dead = h.dead;
        used = subst (λ w. IsUsed ss w a.used) (sym auto_is) (subst (λ u. IsChoice ss u) (sym h.used_is) choice);
        edges = subst (λ u. IsEdgeCount ss u a.edges) (sym h.used_is) h.edges;
      }

  pub by_small : StaysSmall ss → IsAnalysisBy ss Sg a → IsAnalysis ss wanted a
  by_small small h = chosen Sg h small

  pub by_left : (k n : ℕ) → IsFirstLarge ss k n → IsAnalysisBy ss Wfg a → IsAnalysis ss wanted a
  by_left k n left h = chosen Wfg h (λ small. omega (arith, left.large, small k n left.inside left.count))
