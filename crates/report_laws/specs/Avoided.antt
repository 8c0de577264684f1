-- Avoidance and the run of one input: they agree on whether there is a deadlock; who gains by avoidance, and who pays.
use Rattle.std.specs.Prelude.{◌≡◌, ◌≢◌, ℕ, Bool}
use Rattle.command_line.specs.declared.command.Command.{Command}
use Rattle.command_line.specs.declared.command.Command.TheVariants.{Avoid}
use Rattle.command_line.specs.declared.command.Graph.{Graph}
use Rattle.program_io.specs.Texts.{Text}
use Rattle.armus_top.specs.Headline.{Answers}
use Rattle.report_laws.specs.ReportedRuns.{ReportsRun}

-- `avoid`, with whatever workers, and a command that reports the run have one status for one input; and where it is not 1 and the graph is the same, they
-- write the same bytes
abbrev pub AvoidTellsAsRun : Type 0
AvoidTellsAsRun =
    (workers : ℕ) (g h : Graph) (kept : Bool) (c : Command) (input : Text) (a b : ℕ) (p q : Text) → ReportsRun h c → Answers (Avoid workers g kept) input a p →
    Answers c input b q → (a ≡ b) × (b ≢ 1 → g ≡ h → p ≡ q)
