-- What a run of PL announces with an end for each task that is done.
use Rattle.std.specs.Prelude.{◌≡◌, ℕ, true, List, [], ◌∷◌, ◌++◌, ◌⊎◌, ◌↔◌, None, Contains}
use Rattle.armus_base.specs.AgreementLaws.{WaitsForTask}
use Rattle.armus_base.specs.CheckedPlans.{IsCheckedPlan}
use Rattle.armus_base.specs.Counts.{IsDistinct}
use Rattle.armus_base.specs.Deadlocks.{IsDeadIn}
use Rattle.armus_base.specs.Plans.{Plan, action_at}
use Rattle.armus_base.specs.Runs.{IsLegalRun, places, state_after}
use Rattle.armus_base.specs.States.{State, Step}
use Rattle.monitor_laws.specs.Lines.{Ends, TraceLine, Announces}
use Rattle.monitor_laws.specs.States.{Participant, TraceState, after_lines}
use Rattle.monitor_laws.specs.Stuck.{IsStuck}
use Rattle.monitor_laws.specs.Traces.{HasNoWildcard, HaveSameLinesOfNames, IsLasting, IsLegalTrace}
use Rattle.monitor_runs.specs.RunTraces.{Naming, TellsNumber, lines_of_run}

-- the task is done after the run: it is forked, and nothing of its code is left
abbrev pub IsDoneAfter : Plan → List Step → ℕ → Type 0
IsDoneAfter plan h t = ((state_after h).forked t ≡ true) × (action_at plan t (places h t).done ≡ None)

-- an end of each of these tasks
abbrev pub end_lines : Naming → List ℕ → List TraceLine
end_lines task [] = []
end_lines task (t ∷ done) = Announces (task t) Ends None ∷ end_lines task done

-- a task that waits for one of those that are done, or for one that does so
pub data WaitsForDone (s : State) (done : List ℕ) : ℕ → Type 0 where
  on_done : {t : ℕ} (u : ℕ) → WaitsForTask s t u → Contains done u → WaitsForDone s done t
  on_waiting : {t : ℕ} (u : ℕ) → WaitsForTask s t u → WaitsForDone s done u → WaitsForDone s done t

-- somebody with this name is stuck
abbrev pub IsStuckByName : TraceState → List ℕ → Type 0
IsStuckByName g t = (u : Participant) × IsStuck g u × (u.name ≡ t)

-- just these are stuck: the dead, and those who wait for one that is done, or for one who does so
abbrev pub AreStuckOfRun : Naming → State → List ℕ → TraceState → Type 0
AreStuckOfRun task s done g = (t : ℕ) → IsStuckByName g (task t) ↔ (IsDeadIn s t ⊎ WaitsForDone s done t)

-- the lines of a run with an end of each of these tasks behind them are a legal and lasting trace, and just those are stuck; so it is wherever an end stands
-- behind the last line of its task, and in whatever order lines of different tasks come
pub record IsEndedTraceOfRun (task phaser : Naming) (h : List Step) (done : List ℕ) (g : List TraceLine) : Type 0 where
  pub legal : IsLegalTrace g
  pub lasting : IsLasting g
  pub stuck : AreStuckOfRun task (state_after h) done (after_lines g)
  pub mixed : (c : List TraceLine) → HasNoWildcard c → HaveSameLinesOfNames c g → AreStuckOfRun task (state_after h) done (after_lines c)

-- with an end for tasks that are done, just these are stuck: the dead, and those who wait for one that is done, or for one who does so
abbrev pub EndedRunsAreTraces : Type 0
EndedRunsAreTraces =
    (plan : Plan) (h : List Step) (task phaser : Naming) (done : List ℕ) → IsCheckedPlan plan → TellsNumber task → TellsNumber phaser → IsLegalRun plan h →
    IsDistinct done → ((t : ℕ) → Contains done t → IsDoneAfter plan h t) →
    IsEndedTraceOfRun task phaser h done (end_lines task done ++ lines_of_run task phaser h)

-- a list has each task that is done, once
abbrev pub HasAllDone : Type 0
HasAllDone =
    (plan : Plan) (h : List Step) → IsCheckedPlan plan → IsLegalRun plan h →
    (done : List ℕ) × IsDistinct done × ((t : ℕ) → Contains done t ↔ IsDoneAfter plan h t)
