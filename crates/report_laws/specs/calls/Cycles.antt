-- The cycle of a report is the proof of a deadlock, and the graph that is wanted changes the last line alone.
use Rattle.std.specs.Prelude.{◌≡◌, ◌++◌, ℕ}
use Rattle.armus_base.specs.CheckedPlans.{IsCheckedPlan}
use Rattle.armus_base.specs.Plans.{Plan}
use Rattle.adaptive.specs.declared.analysis.Used.{Used}
use Rattle.adaptive.specs.declared.analysis.Wanted.{Wanted}
use Rattle.report.specs.Lines.{graph_line}
use Rattle.program_io.specs.Texts.{Text}
use Rattle.armus_top.specs.Avoids.{IsAvoidOf}
use Rattle.armus_top.specs.Clocks.{IsClockPlanOf}
use Rattle.armus_top.specs.Runs.{IsRunOf}
use Rattle.report_laws.specs.Cycles.{ShowsDeadlock}

-- a run of a clock text shows its deadlock as one of a text does
abbrev pub ClockCycleIsProof : Type 0
ClockCycleIsProof =
    (text : Text) (plan : Plan) (g : Wanted) (status : ℕ) (report : Text) → IsClockPlanOf text plan → (run : IsRunOf plan g status report) →
    ShowsDeadlock run.state run.report_is.cycle_text status

-- two texts have the same lines but for the last one, which names a graph in each
abbrev pub DifferInGraph : Text → Text → Type 0
DifferInGraph p q =
    (front : Text) × (used : Used) × (other : Used) × (m : ℕ) × (n : ℕ) × (p ≡ front ++ graph_line used m) × (q ≡ front ++ graph_line other n)

-- reports of one run by two graphs have the same status, and the same lines but for the last one, which names the graph
abbrev pub GraphChangesLastLine : Type 0
GraphChangesLastLine =
    (plan : Plan) (g h : Wanted) (a b : ℕ) (p q : Text) → IsCheckedPlan plan → IsRunOf plan g a p → IsRunOf plan h b q → (a ≡ b) × DifferInGraph p q

-- and so have those of `avoid` with one worker, which refuses the same tasks whatever the graph
abbrev pub GraphChangesNoRefusal : Type 0
GraphChangesNoRefusal =
    (input : Text) (g h : Wanted) (a b : ℕ) (p q : Text) → IsAvoidOf input 1 g a p → IsAvoidOf input 1 h b q → (a ≡ b) × DifferInGraph p q
