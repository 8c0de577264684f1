-- What `record` writes is an input of `replay`.
use Rattle.std.specs.Prelude.{◌≡◌, ◌≤◌, ◌↔◌, ◌++◌, ℕ, List, Some, Contains, length}
use Rattle.armus_base.specs.declared.ids.TaskId.{TaskId}
use Rattle.armus_base.specs.Deadlocks.{IsDeadIn}
use Rattle.armus_base.specs.Runs.{state_after}
use Rattle.command_line.specs.declared.command.Command.TheVariants.{Record, Replay}
use Rattle.program_io.specs.Texts.{Text}
use Rattle.program_io.specs.Passages.{HasInput, Passage}
use Rattle.armus_top.specs.Headline.{IsAccepted}
use Rattle.armus_top.specs.Commands.{limit_of}
use Rattle.command_line.specs.Commands.{Means}
use Rattle.armus_top.specs.Records.{IsRecordOf}
use Rattle.armus_top.specs.Replays.{IsReplayOf}
use Rattle.armus_top.specs.declared.replaying.TheConstants.{MAX_REPLAY_BYTES}

-- the bytes are an input of `replay`: not too long and not refused, and whatever it is answered has this status and names just these dead tasks
pub record IsReplayable (bytes : Text) (status : ℕ) (dead : ℕ → Type 0) : Type 0 where
  pub fits : length bytes ≤ MAX_REPLAY_BYTES
  pub accepted : IsAccepted Replay bytes
  pub status_same : (other : ℕ) (report : Text) → IsReplayOf bytes other report → other ≡ status
  pub dead_same : (other : ℕ) (report : Text) (r : IsReplayOf bytes other report) (t : TaskId) → Contains r.done.dead t ↔ dead t.0

-- Where the words mean `record`, the status is 0 or 1 and the sink tells its bytes: what was written is the record of the input, and such an input of `replay`.
abbrev pub WritesReplayable : List Text → Passage → Passage → ℕ → Type 0
WritesReplayable words src out number =
    (workers : ℕ) (old bytes : Text) → Means words (Some (Record workers)) → number ≤ 1 → out.before ≡ Some old → out.after ≡ Some (old ++ bytes) →
    (input : Text) × HasInput (limit_of (Record workers)) src input
    × ((r : IsRecordOf input number bytes) × IsReplayable bytes number (IsDeadIn (state_after r.steps)))
