-- One answer for one input: what the words and the input alone fix.
use Rattle.std.specs.Prelude.{◌≡◌, ℕ}
use Rattle.command_line.specs.declared.command.Command.{Command}
use Rattle.command_line.specs.declared.command.Command.TheVariants.{Check, Run, Avoid, Record, Replay, Gen, Clock, Pool}
use Rattle.command_line.specs.declared.command.Graph.{Graph}
use Rattle.program_io.specs.Texts.{Text}
use Rattle.armus_top.specs.Headline.{Answers}
use Rattle.report_laws.specs.Outputs.{AreAlike}
use Rattle.report_laws.specs.ReportedRuns.{ReportsRun}

-- the words and the input alone fix the answer of every command but `record`, and `avoid` with several workers
abbrev pub FixesAnswer : Command → Type 0
FixesAnswer (Record workers) = ⊥
FixesAnswer (Avoid workers g kept) = workers ≡ 1
FixesAnswer (Check print) = Unit {0}
FixesAnswer (Run workers g kind) = Unit {0}
FixesAnswer Replay = Unit {0}
FixesAnswer (Gen count) = Unit {0}
FixesAnswer (Clock workers g live) = Unit {0}
FixesAnswer (Pool workers g) = Unit {0}

-- so there is one status and one text at most, but for the order of live lines
abbrev pub OneAnswer : Type 0
OneAnswer =
    (c : Command) (input : Text) (a b : ℕ) (p q : Text) → FixesAnswer c → Answers c input a p → Answers c input b q → (a ≡ b) × AreAlike c p q

-- and whichever commands report the run of an input by one graph, with whatever workers and sites, they have one status and write the same bytes
abbrev pub RunsReportAlike : Type 0
RunsReportAlike =
    (g : Graph) (c d : Command) (input : Text) (a b : ℕ) (p q : Text) → ReportsRun g c → ReportsRun g d → Answers c input a p → Answers d input b q →
    (a ≡ b) × (p ≡ q)
