-- A run with live lines and one without.
use Rattle.std.specs.Prelude.{◌≡◌, ◌++◌, ℕ, List, true, false}
use Rattle.armus_base.specs.declared.status.Dead.{Dead}
use Rattle.report.specs.Live.{live_text}
use Rattle.command_line.specs.declared.command.Command.TheVariants.{Run, Clock}
use Rattle.command_line.specs.declared.command.Graph.{Graph}
use Rattle.command_line.specs.declared.command.RunKind.TheVariants.{Plain, Live}
use Rattle.program_io.specs.Texts.{Text}
use Rattle.armus_top.specs.Headline.{Answers}
use Rattle.report_laws.specs.Outputs.{NameEachOnce}

-- the text stands behind live lines, no two of which name one task
abbrev pub StandsBehindLines : Text → Text → Type 0
StandsBehindLines output text = (named : List Dead) × NameEachOnce named × (output ≡ live_text named ++ text)

-- `run --live` has the status of `run` for one input and one graph, and writes what that writes, behind live lines
abbrev pub LiveRunTellsAsRun : Type 0
LiveRunTellsAsRun =
    (workers others : ℕ) (g : Graph) (input : Text) (a b : ℕ) (p q : Text) → Answers (Run workers g Live) input a p → Answers (Run others g Plain) input b q →
    (a ≡ b) × StandsBehindLines p q

-- and so does `clock --live` beside `clock`
abbrev pub LiveClockTellsAsClock : Type 0
LiveClockTellsAsClock =
    (workers others : ℕ) (g : Graph) (input : Text) (a b : ℕ) (p q : Text) → Answers (Clock workers g true) input a p →
    Answers (Clock others g false) input b q → (a ≡ b) × StandsBehindLines p q
