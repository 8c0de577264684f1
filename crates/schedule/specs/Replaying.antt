-- What a replay answers.
use Rattle.std.specs.Prelude.{◌≡◌, ◌<◌, ◌↔◌, List, [], ◌∷◌, ◌++◌, length, AllPairs, Contains}
use Rattle.armus_base.specs.declared.ids.TaskId.{TaskId}
use Rattle.armus_base.specs.DeadLists.{IsDeadList}
use Rattle.armus_base.specs.Deadlocks.{IsDeadIn}
use Rattle.armus_base.specs.Plans.{Plan}
use Rattle.armus_base.specs.Runs.{state_after}
use Rattle.armus_base.specs.States.{State}
use Rattle.schedule.specs.declared.lines.Line.{Line}
use Rattle.schedule.specs.declared.verdict.PassVerdict.{PassVerdict}
use Rattle.schedule.specs.declared.verdict.Replayed.{Replayed}
use Rattle.schedule.specs.Passes.{PassLoads, statuses_found}
use Rattle.schedule.specs.Replays.{Progress, LinesLead}

-- each verdict names the tasks that are dead by the statuses that its pass found
pub data AreVerdicts (plan : Plan) : List PassLoads → List PassVerdict → Type 0 where
  no_pass : AreVerdicts plan [] []
  one_pass : (passes : List PassLoads) (verdicts : List PassVerdict) (loads : PassLoads) (v : PassVerdict) → AreVerdicts plan passes verdicts
      → IsDeadList (statuses_found plan loads) v.dead → AreVerdicts plan (passes ++ loads ∷ []) (verdicts ++ v ∷ [])

-- these are the tasks that are dead in the state, in order of number, each once
pub record AreDeadIn (s : State) (dead : List TaskId) : Type 0 where
  pub ascends : AllPairs (λ t u. t.0 < u.0) dead
  pub exact : (t : TaskId) → Contains dead t ↔ IsDeadIn s t.0

-- what a schedule without a fault leads to: the verdicts of its passes, the number of its steps, and the dead tasks of the state at its end
pub record IsReplayed (plan : Plan) (lines : List Line) (done : Replayed) : Type 0 where
  pub progress : Progress
  pub leads : LinesLead plan lines progress
  pub verdicts : AreVerdicts plan progress.passes done.verdicts
  pub steps : done.steps ≡ length progress.run
  pub dead : AreDeadIn (state_after progress.run) done.dead
