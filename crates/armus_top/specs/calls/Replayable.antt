-- What `record` writes is an input of `replay`.
use Rattle.std.specs.Prelude.{◌≤◌, ℕ, length}
use Rattle.armus_base.specs.Deadlocks.{IsDeadIn}
use Rattle.armus_base.specs.Runs.{state_after}
use Rattle.program_io.specs.Texts.{Text}
use Rattle.armus_top.specs.Records.{IsRecordOf}
use Rattle.program_io.specs.declared.text_limit.TheConstants.{MAX_TEXT_BYTES}
use Rattle.armus_top.specs.Replayable.{IsReplayable}

-- so is each record of a text that is no longer than a text may be
abbrev pub RecordsReplay : Type 0
RecordsReplay =
    (input : Text) (status : ℕ) (text : Text) (r : IsRecordOf input status text) → length input ≤ MAX_TEXT_BYTES →
    IsReplayable text status (IsDeadIn (state_after r.steps))
