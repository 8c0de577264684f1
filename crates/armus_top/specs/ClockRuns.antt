-- What `clock` writes.
use Rattle.std.specs.Prelude.{◌≡◌, ℕ, Ok}
use Rattle.armus_base.specs.Deadlocks.{IsHeld}
use Rattle.armus_base.specs.Plans.{Plan}
use Rattle.armus_base.specs.Runs.{IsFinal}
use Rattle.armus_base.specs.States.{State}
use Rattle.adaptive.specs.declared.analysis.Wanted.{Wanted}
use Rattle.clock_syntax.specs.Trees.{ClockTree}
use Rattle.clock_syntax.specs.Grammar.{IsClockText}
use Rattle.clock_semantics.specs.Unfolding.{ClockUnfolding, clock_unfolded}
use Rattle.clock_laws.specs.TextLaws.{EndsAreTold}
use Rattle.command_line.specs.declared.command.RunKind.{RunKind}
use Rattle.program_io.specs.Texts.{Text}
use Rattle.armus_top.specs.Clocks.{IsClockPlanOf}
use Rattle.armus_top.specs.Runs.{IsRunOutput}

-- the machine on the text's program comes to an end, and at each of its ends every activity stands as its task has ended in the state
pub record HasTextEnds (text : Text) (state : State) : Type 0 where
  pub program : ClockTree
  pub reads : IsClockText text program
  pub unfolded : ClockUnfolding
  pub unfolds : clock_unfolded program ≡ Ok unfolded
  pub told : EndsAreTold program unfolded state

-- what is written of a run of this kind of the text's plan, whose final state, which the report tells, is that of the machine on the text too; in it no task is held
pub record IsClockRunOf (text : Text) (kind : RunKind) (g : Wanted) (status : ℕ) (output : Text) : Type 0 where
  pub plan : Plan
  pub plan_is : IsClockPlanOf text plan
  pub run : IsRunOutput kind plan g status output
  pub ends : (state : State) → IsFinal plan state → HasTextEnds text state
  pub unheld : (state : State) (t : ℕ) → IsFinal plan state → IsHeld state t → ⊥
