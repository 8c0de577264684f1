-- What is written where a clock text is explained or refused.
use Rattle.std.specs.Prelude.{◌≡◌, ◌⊎◌, ℕ, Bool, if◌then◌else◌, List, Option, Ok, Err}
use Rattle.armus_base.specs.Plans.{Plan}
use Rattle.armus_base.specs.Runs.{IsMaximal, IsPlainRun, state_after}
use Rattle.armus_base.specs.States.{State, Step}
use Rattle.pl_syntax.specs.declared.fault.SyntaxFault.{SyntaxFault}
use Rattle.pl_plan.specs.declared.fault.CheckFault.{CheckFault}
use Rattle.clock_syntax.specs.Grammar.{HasClockFault, IsClockText}
use Rattle.clock_syntax.specs.Trees.{ClockTree}
use Rattle.clock_semantics.specs.Unfolding.{ClockUnfolding, clock_unfolded, plan_of_moves}
use Rattle.clock_laws.specs.TextLaws.{EndsAreTold}
use Rattle.clock_source_map.specs.ClockOffsets.{clock_offsets}
use Rattle.explain_clock.specs.ClockExplanations.{ExplainsActivities}
use Rattle.explain_facts.specs.RunStates.{done_after}
use Rattle.explain_clock.specs.ClockRefusals.{clock_fault_lines, clock_syntax_lines}
use Rattle.program_io.specs.Texts.{Text}
use Rattle.explain.specs.Explained.{IsStatusBy, SomeWaits}
use Rattle.explain.specs.Requests.{Form}
use Rattle.explain.specs.Shortened.{IsDisplayed}

-- The text is this clock program, which has this unfolding, and these steps are a run of the unfolding's plan up to its end. Where it ends, each task has
-- ended as its activity stands at the ends of the machine on the text.
pub record IsMaximalClockRun (text : Text) (program : ClockTree) (unfolded : ClockUnfolding) (steps : List Step) : Type 0 where
  pub reads : IsClockText text program
  pub unfolds : clock_unfolded program ≡ Ok unfolded
  pub run : IsPlainRun (plan_of_moves unfolded) steps
  pub maximal : IsMaximal (plan_of_moves unfolded) steps
  pub told : EndsAreTold program unfolded (state_after steps)

-- the lines show, in this form, the explanation of how the activities stand in this state of the plan of the program's unfolding, and it tells whether one waits
abbrev pub AreToldActivities : Form → Text → ClockTree → ClockUnfolding → Plan → State → (ℕ → ℕ) → Text → Bool → Type 0
AreToldActivities form text p u plan s done lines waits = IsDisplayed 2 form.extent (λ whole. ExplainsActivities form.file text p u plan s done whole waits) lines

-- the lines explain how the activities stand where a run of the clock text, told in this form, has ended; and the status is 1 where one
-- of them waits, else 0
pub record IsClockExplanationOf (form : Form) (text : Text) (status : ℕ) (lines : Text) : Type 0 where
  pub program : ClockTree
  pub unfolded : ClockUnfolding
  pub steps : List Step
  pub ended : IsMaximalClockRun text program unfolded steps
  pub waits : Bool
  pub explains : AreToldActivities form text program unfolded (plan_of_moves unfolded) (state_after steps) (done_after steps) lines waits
  pub status_is : status ≡ (if waits then 1 else 0)

-- the lines of a clock text that is refused: for its first syntax fault, or else for the first fault of its unfolding
abbrev pub IsClockRefusedWith : Option Text → Text → Text → Type 0
IsClockRefusedWith file text lines =
    ((fault : SyntaxFault) × HasClockFault text fault × (lines ≡ clock_syntax_lines file text fault))
    ⊎ ((program : ClockTree) × (fault : CheckFault) × IsClockText text program × (clock_unfolded program ≡ Err fault)
    × (lines ≡ clock_fault_lines file text (clock_offsets text program) fault))

-- a whole output for this clock text, told in this form, with its status: 0 or 1 with its explanation, or 3 with the lines of a refusal
abbrev pub AnswersClock : Form → Text → ℕ → Text → Type 0
AnswersClock form text status lines = IsClockExplanationOf form text status lines ⊎ ((status ≡ 3) × IsClockRefusedWith form.file text lines)

-- ---- statuses

-- the clock text has a fault
abbrev pub HasSomeClockFault : Text → Type 0
HasSomeClockFault text =
    ((fault : SyntaxFault) × HasClockFault text fault) ⊎ ((program : ClockTree) × (fault : CheckFault) × IsClockText text program × (clock_unfolded program ≡ Err fault))

-- the clock text is not refused, and this holds of its final state, in which a run of it ends
pub record ClockEndsSo (text : Text) (Holds : State → Type 0) : Type 0 where
  pub program : ClockTree
  pub unfolded : ClockUnfolding
  pub steps : List Step
  pub ended : IsMaximalClockRun text program unfolded steps
  pub holds : Holds (state_after steps)

-- the status of a clock text that is not too long: 1 exactly where an activity of its final state waits
abbrev pub IsClockStatusOf : Text → ℕ → Type 0
IsClockStatusOf text = IsStatusBy (HasSomeClockFault text) (ClockEndsSo text) SomeWaits
