-- The printed form of a program means what its text means.
use Rattle.std.specs.Prelude.{◌≡◌, ◌↔◌, ℕ, true}
use Rattle.command_line.specs.declared.command.Command.{Command}
use Rattle.command_line.specs.declared.command.Command.TheVariants.{Check, Run, Avoid, Record, Replay, Gen, Clock, Pool}
use Rattle.program_io.specs.Texts.{Text}
use Rattle.armus_top.specs.Commands.{IsAnswered}
use Rattle.armus_top.specs.Headline.{IsAccepted}
use Rattle.armus_top.specs.Records.{IsRecordOf}
use Rattle.armus_top.specs.Replays.{IsShort}
use Rattle.report_laws.specs.calls.OnePlan.{HaveOnePlan}

-- the command's answer goes by the input's program alone: `record` writes the text itself, and `replay` takes a text of a limited length
abbrev pub GoesByProgram : Command → Type 0
GoesByProgram (Check print) = Unit {0}
GoesByProgram (Run workers g kind) = Unit {0}
GoesByProgram (Avoid workers g kept) = Unit {0}
GoesByProgram (Pool workers g) = Unit {0}
GoesByProgram (Record workers) = ⊥
GoesByProgram Replay = ⊥
GoesByProgram (Gen count) = ⊥
GoesByProgram (Clock workers g live) = ⊥

-- The text that is printed for an input has its plan; printed again it is the same; where it is no longer than a text may be, such commands answer it as they
-- answer the input; `record` refuses it for nothing else than its length, and may write each journal of the input behind it; and, where neither is too long,
-- `replay` answers it as the input.
pub record IsPrintedAlike (input printed : Text) : Type 0 where
  pub plan : HaveOnePlan printed input
  pub again : IsAnswered (Check true) printed 0 printed
  pub answered : (c : Command) (number : ℕ) (text : Text) → GoesByProgram c → IsAnswered c printed number text ↔ IsAnswered c input number text
  pub accepted : (workers : ℕ) → IsAccepted (Record workers) printed
  pub recorded : (number : ℕ) (text : Text) (r : IsRecordOf input number text) → (other : Text) × (s : IsRecordOf printed number other) × (s.journal ≡ r.journal)
  pub replayed : IsShort input → IsShort printed → (number : ℕ) (text : Text) → IsAnswered Replay printed number text ↔ IsAnswered Replay input number text

-- so is what `check --print` writes of an input
abbrev pub PrintingKeepsMeaning : Type 0
PrintingKeepsMeaning = (input printed : Text) (status : ℕ) → IsAnswered (Check true) input status printed → IsPrintedAlike input printed
