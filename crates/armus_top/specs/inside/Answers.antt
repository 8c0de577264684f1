-- What a command answers on its input, before it is written.
use Rattle.std.specs.Prelude.{◌≡◌, ◌↔◌, ℕ, Bool, Result, Ok, Err, IsTrue, if◌then◌else◌}
use Rattle.clock_syntax.specs.Trees.{ClockTree}
use Rattle.clock_syntax.specs.Grammar.{IsClockText, HasClockFault}
use Rattle.clock_semantics.specs.Unfolding.{clock_plan_of}
use Rattle.clock_pl.specs.calls.ClockPlanning.{as_fault}
use Rattle.clock_pl.specs.ClockLines.{clock_fault_line}
use Rattle.armus_base.specs.declared.ending.Final.{Final}
use Rattle.adaptive.specs.declared.analysis.Wanted.{Wanted}
use Rattle.report.specs.Refusals.{refusal_text}
use Rattle.report.specs.Reports.{IsReport, IsSomeDead}
use Rattle.report.specs.declared.refusal.Refusal.{Refusal}
use Rattle.report.specs.declared.refusal.Refusal.TheVariants as refusal
use Rattle.command_line.specs.declared.command.Command.{Command}
use Rattle.program_io.specs.Texts.{Text}
use Rattle.armus_top.specs.Commands.{IsAnswered, IsRefusedInput}
use Rattle.armus_top.specs.declared.output.InputEnd.{InputEnd}
use Rattle.armus_top.specs.declared.output.InputEnd.TheVariants.{Refused, Clock, NoMemory}
use Rattle.armus_top.specs.declared.output.Output.{Output}
use Rattle.program_io.specs.calls.ExitNumbers.{number_of_status}

-- why there is no answer: the input is refused for one of these causes, or memory ran out
abbrev pub IsEnd : (Refusal → Type 0) → InputEnd → Type 0
IsEnd IsWhy (Refused why) = IsWhy why
IsEnd IsWhy (Clock fault) = ⊥
IsEnd IsWhy NoMemory = Unit {0}

-- why a clock text has no plan: it is no clock program, or the unfolding of its program has this fault, or memory ran out
abbrev pub IsClockInputEnd : Text → InputEnd → Type 0
IsClockInputEnd text (Refused (refusal.Syntax fault)) = HasClockFault text fault
IsClockInputEnd text (Refused why) = ⊥
IsClockInputEnd text (Clock fault) = (program : ClockTree) × IsClockText text program × (clock_plan_of program ≡ Err (as_fault fault))
IsClockInputEnd text NoMemory = Unit {0}

-- why a command has no answer on this input: it refuses it, with this line, or memory ran out
abbrev pub IsEndOf : Command → Text → InputEnd → Type 0
IsEndOf c input (Refused why) = IsRefusedInput c input (refusal_text why)
IsEndOf c input (Clock fault) = IsRefusedInput c input (clock_fault_line fault.kind fault.statement)
IsEndOf c input NoMemory = Unit {0}

-- what a command answers on this input
abbrev pub AnswersBy : Command → Text → Result Output InputEnd → Type 0
AnswersBy c input (Ok o) = IsAnswered c input (number_of_status o.status) o.text
AnswersBy c input (Err end) = IsEndOf c input end

-- the output is the report of the end, with the status that tells whether a task is dead
abbrev pub ReportsEnd : Final → Wanted → Output → Type 0
ReportsEnd end wanted o =
    (dead : Bool) × (number_of_status o.status ≡ (if dead then 1 else 0)) × (IsTrue dead ↔ IsSomeDead end.blocked) × IsReport end wanted o.text
