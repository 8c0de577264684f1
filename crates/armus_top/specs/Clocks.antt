-- What a clock text comes to: its plan, or why it is refused.
use Rattle.std.specs.Prelude.{◌≡◌, ◌⊎◌, Ok, Err}
use Rattle.armus_base.specs.Plans.{Plan}
use Rattle.pl_syntax.specs.declared.fault.SyntaxFault.{SyntaxFault}
use Rattle.pl_plan.specs.declared.fault.CheckFault.{CheckFault}
use Rattle.clock_syntax.specs.Trees.{ClockTree}
use Rattle.clock_syntax.specs.Grammar.{IsClockText, HasClockFault}
use Rattle.clock_semantics.specs.Unfolding.{clock_plan_of}
use Rattle.clock_pl.specs.ClockLines.{clock_fault_line}
use Rattle.report.specs.Refusals.{refusal_text}
use Rattle.report.specs.declared.refusal.Refusal.TheVariants.{Syntax}
use Rattle.program_io.specs.Texts.{Text}

-- the text is a clock program that unfolds to this plan
abbrev pub IsClockPlanOf : Text → Plan → Type 0
IsClockPlanOf text plan = (program : ClockTree) × IsClockText text program × (clock_plan_of program ≡ Ok plan)

-- the text is refused with this line: it is no clock program, or the unfolding of its program has a fault; the first fault is told
abbrev pub IsClockRefused : Text → Text → Type 0
IsClockRefused text line =
    ((fault : SyntaxFault) × HasClockFault text fault × (line ≡ refusal_text (Syntax fault)))
    ⊎ ((program : ClockTree) × (fault : CheckFault) × IsClockText text program × (clock_plan_of program ≡ Err fault)
    × (line ≡ clock_fault_line fault.kind fault.statement))
