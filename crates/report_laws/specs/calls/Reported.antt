-- The other reports, and live lines: each says how tasks stand in its state.
use Rattle.std.specs.Prelude.{◌↔◌, ℕ, Contains}
use Rattle.armus_base.specs.declared.status.Dead.{Dead}
use Rattle.armus_base.specs.Deadlocks.{IsDeadIn, IsPublishedOn}
use Rattle.armus_base.specs.Plans.{Plan}
use Rattle.adaptive.specs.declared.analysis.Wanted.{Wanted}
use Rattle.program_io.specs.Texts.{Text}
use Rattle.program_io.specs.Programs.{IsPlanOf}
use Rattle.armus_top.specs.Avoids.{IsAvoidOf}
use Rattle.armus_top.specs.Clocks.{IsClockPlanOf}
use Rattle.armus_top.specs.Runs.{IsLiveRunOf, IsRunOf}
use Rattle.report_laws.specs.ReportedStandings.{AreStandingsIn}

-- the report of a run of a clock text says how its activities stand, as tasks, in the state in which every maximal run ends
abbrev pub ActivitiesStandAsReported : Type 0
ActivitiesStandAsReported =
    (text : Text) (plan : Plan) (g : Wanted) (status : ℕ) (report : Text) → IsClockPlanOf text plan → (run : IsRunOf plan g status report) →
    AreStandingsIn plan run.state run.report_is.standings

-- the report of `avoid` says how tasks stand in the state that it is of
abbrev pub StandAsAvoided : Type 0
StandAsAvoided =
    (text : Text) (workers : ℕ) (g : Wanted) (status : ℕ) (report : Text) (run : IsAvoidOf text workers g status report) →
    AreStandingsIn run.plan run.state run.report_is.standings

-- there is a live line for a task exactly where it is dead in the state in which every maximal run ends, with the event for which it waits there
abbrev pub LiveLinesNameTheDead : Type 0
LiveLinesNameTheDead =
    (text : Text) (plan : Plan) (g : Wanted) (status : ℕ) (output : Text) → IsPlanOf text plan → (run : IsLiveRunOf plan g status output) (d : Dead) →
    Contains run.named d ↔ (IsDeadIn run.run.state d.t.0 × IsPublishedOn run.run.state d.t.0 d.event)
