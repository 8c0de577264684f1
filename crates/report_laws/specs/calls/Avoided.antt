-- Avoidance and the run of one input: they agree on whether there is a deadlock; who gains by avoidance, and who pays.
use Rattle.std.specs.Prelude.{◌≡◌, ◌≢◌, ◌<◌, ℕ, length}
use Rattle.armus_base.specs.declared.ending.TaskEnd.TheVariants.{Done, Unforked}
use Rattle.armus_base.specs.calls.AgreementLaws.{HasEndedRefused, IsStuckIn}
use Rattle.armus_base.specs.Deadlocks.{IsDeadIn}
use Rattle.armus_base.specs.Finals.{end_of}
use Rattle.armus_base.specs.Plans.{Plan}
use Rattle.armus_base.specs.States.{State}
use Rattle.adaptive.specs.declared.analysis.Wanted.{Wanted}
use Rattle.program_io.specs.Texts.{Text}
use Rattle.armus_top.specs.Avoids.{IsAvoidOf}
use Rattle.armus_top.specs.Runs.{IsRunOf}

-- in the state no task of the plan is unforked
abbrev pub LeavesNobodyUnforked : Plan → State → Type 0
LeavesNobodyUnforked plan s = (u : ℕ) → u < length plan.parents → end_of s u ≢ Unforked

-- How one task stands at the end of the avoided run and at that of the plain one: one that is done in the plain run is done where deadlock is avoided. One
-- that is refused is not done in the plain run, where it is stuck, and dead where nobody is unforked.
pub record StandsInBoth (plan : Plan) (avoided run : State) (t : ℕ) : Type 0 where
  pub gains : end_of run t ≡ Done → end_of avoided t ≡ Done
  pub pays : HasEndedRefused avoided t → end_of run t ≢ Done
  pub stuck : HasEndedRefused avoided t → IsStuckIn run t
  pub dead : HasEndedRefused avoided t → LeavesNobodyUnforked plan run → IsDeadIn run t

-- so does each task of the plan of an input
abbrev pub WhoGainsAndPays : Type 0
WhoGainsAndPays =
    (input : Text) (workers : ℕ) (g h : Wanted) (a b : ℕ) (p q : Text) (avoided : IsAvoidOf input workers g a p) (run : IsRunOf avoided.plan h b q) (t : ℕ) →
    t < length avoided.plan.parents → StandsInBoth avoided.plan avoided.state run.state t
