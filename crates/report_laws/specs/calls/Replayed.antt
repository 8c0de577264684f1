-- A replay and the run of its text: whoever the replay names is dead at the end of the run.
use Rattle.std.specs.Prelude.{◌≡◌, ℕ, Contains}
use Rattle.armus_base.specs.declared.ids.TaskId.{TaskId}
use Rattle.armus_base.specs.Deadlocks.{IsDeadIn}
use Rattle.adaptive.specs.declared.analysis.Wanted.{Wanted}
use Rattle.schedule.specs.declared.verdict.Replayed.{Replayed}
use Rattle.schedule.specs.declared.verdict.PassVerdict.{PassVerdict}
use Rattle.program_io.specs.Texts.{Text}
use Rattle.armus_top.specs.Replays.{IsReplayOf}
use Rattle.armus_top.specs.Runs.{IsRunOf}

-- a pass of the replay names the task, or the end does
pub data IsNamedInReplay (done : Replayed) (t : TaskId) : Type 0 where
  by_pass : (v : PassVerdict) → Contains done.verdicts v → Contains v.dead t → IsNamedInReplay done t
  at_end : Contains done.dead t → IsNamedInReplay done t

-- whoever a replay names is dead in the state in which every run of its text ends, and so where its status is 1 that of the run is 1
abbrev pub ReplayTellsAsRun : Type 0
ReplayTellsAsRun =
    (input : Text) (g : Wanted) (a b : ℕ) (p q : Text) (replay : IsReplayOf input a p) (run : IsRunOf replay.by.plan g b q) →
    ((t : TaskId) → IsNamedInReplay replay.done t → IsDeadIn run.state t.0) × (a ≡ 1 → b ≡ 1)
