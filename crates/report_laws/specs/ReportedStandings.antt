-- How a report says that tasks stand, and how they stand in the state in which every maximal run ends.
use Rattle.std.specs.Prelude.{◌≡◌, ◌<◌, ◌↔◌, ℕ, List, Some, length, slice_get}
use Rattle.armus_base.specs.declared.ending.TaskEnd.TheVariants as ends
use Rattle.armus_base.specs.Deadlocks.{IsDeadIn, IsHeld, IsPublishedOn}
use Rattle.armus_base.specs.Finals.{end_of}
use Rattle.armus_base.specs.Plans.{Plan}
use Rattle.armus_base.specs.States.{State}
use Rattle.adaptive.specs.declared.analysis.Wanted.{Wanted}
use Rattle.report.specs.declared.standing.Standing.{Standing}
use Rattle.report.specs.declared.standing.Standing.TheVariants.{Done, Dead, Held, Refused, Unforked}
use Rattle.program_io.specs.Texts.{Text}
use Rattle.program_io.specs.Programs.{IsPlanOf}
use Rattle.armus_top.specs.Runs.{IsRunOf}

-- task t stands so in the state: it is done; or dead, or held, and waits for this event; or its await of it was refused; or it is not forked
abbrev pub IsStandingIn : State → ℕ → Standing → Type 0
IsStandingIn s t Done = end_of s t ≡ ends.Done
IsStandingIn s t (Dead e) = IsDeadIn s t × IsPublishedOn s t e
IsStandingIn s t (Held e) = IsHeld s t × IsPublishedOn s t e
IsStandingIn s t (Refused e) = end_of s t ≡ ends.Refused e
IsStandingIn s t Unforked = end_of s t ≡ ends.Unforked

-- these standings are just those of the plan's tasks in the state, in order of number
abbrev pub AreStandingsIn : Plan → State → List Standing → Type 0
AreStandingsIn plan s standings = (t : ℕ) (x : Standing) → (slice_get standings t ≡ Some x) ↔ ((t < length plan.parents) × IsStandingIn s t x)

-- the report of a run of a text calls a task dead exactly where it is dead in the state in which every maximal run ends, and so with each other standing
abbrev pub StandAsReported : Type 0
StandAsReported =
    (text : Text) (plan : Plan) (g : Wanted) (status : ℕ) (report : Text) → IsPlanOf text plan → (run : IsRunOf plan g status report) →
    AreStandingsIn plan run.state run.report_is.standings
