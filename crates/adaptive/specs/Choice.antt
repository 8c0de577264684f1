-- Which graph is used, and how many edges it has.
use Rattle.std.specs.Prelude.{◌≡◌, ℕ, List}
use Rattle.armus_base.specs.Counts.{IsCount}
use Rattle.armus_base.specs.declared.ids.TaskId.{TaskId}
use Rattle.armus_base.specs.declared.event.Event.{Event}
use Rattle.armus_base.specs.declared.status.Status.{Status}
use Rattle.armus_base.specs.Graphs.{WaitsFor, StateEdge, Resource, ResourceEdge, StaysSmall}
use Rattle.adaptive.specs.declared.analysis.Wanted.{Wanted}
use Rattle.adaptive.specs.declared.analysis.Wanted.TheVariants.{Auto, Wfg as WantWfg, Sg as WantSg, Grg as WantGrg}
use Rattle.adaptive.specs.declared.analysis.Used.{Used}
use Rattle.adaptive.specs.declared.analysis.Used.TheVariants.{Wfg, Sg, Grg}

-- the whole graph has n edges
abbrev pub IsEdgeCount : List Status → Used → ℕ → Type 0
IsEdgeCount ss Wfg n = IsCount (λ (p : TaskId × TaskId). WaitsFor ss p.0 p.1) n
IsEdgeCount ss Sg n = IsCount (λ (p : Event × Event). StateEdge ss p.0 p.1) n
IsEdgeCount ss Grg n = IsCount (λ (p : Resource × Resource). ResourceEdge ss p.0 p.1) n

-- the state graph exactly where it stays small, and the wait-for graph otherwise
abbrev pub IsChoice : List Status → Used → Type 0
IsChoice ss Wfg = StaysSmall ss → ⊥
IsChoice ss Sg = StaysSmall ss
IsChoice ss Grg = ⊥

-- Auto uses the choice, and each other wish the graph that it names
abbrev pub IsUsed : List Status → Wanted → Used → Type 0
IsUsed ss Auto used = IsChoice ss used
IsUsed ss WantWfg used = used ≡ Wfg
IsUsed ss WantSg used = used ≡ Sg
IsUsed ss WantGrg used = used ≡ Grg
