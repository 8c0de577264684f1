-- What is written where the steps of a clock text's run are shown.
use Rattle.std.specs.Prelude.{◌≡◌, ◌++◌, ℕ, Bool, if◌then◌else◌, List}
use Rattle.armus_base.specs.Runs.{state_after}
use Rattle.armus_base.specs.States.{Step}
use Rattle.clock_syntax.specs.Trees.{ClockTree}
use Rattle.clock_semantics.specs.Unfolding.{ClockUnfolding, plan_of_moves}
use Rattle.explain_facts.specs.RunStates.{done_after}
use Rattle.explain_steps.specs.SerialRuns.{IsSerialRun}
use Rattle.explain_steps.specs.ShownClockSteps.{AreClockShown}
use Rattle.program_io.specs.Texts.{Text}
use Rattle.explain.specs.ClockExplained.{AreToldActivities, IsMaximalClockRun}
use Rattle.explain.specs.Requests.{Form}

-- The lines show the steps of the serial plain run of a clock text, told in this form, and then explain how its activities stand where this
-- run has ended; and the status is 1 where one of them waits, else 0.
pub record AreClockStepsOf (form : Form) (text : Text) (status : ℕ) (lines : Text) : Type 0 where
  pub program : ClockTree
  pub unfolded : ClockUnfolding
  pub steps : List Step
  pub ended : IsMaximalClockRun text program unfolded steps
  pub serial : IsSerialRun (plan_of_moves unfolded) steps
  pub shown : Text
  pub are_shown : AreClockShown text program unfolded (plan_of_moves unfolded) steps shown
  pub explanation : Text
  pub waits : Bool
  pub explains : AreToldActivities form text program unfolded (plan_of_moves unfolded) (state_after steps) (done_after steps) explanation waits
  pub status_is : status ≡ (if waits then 1 else 0)
  pub lines_are : lines ≡ shown ++ explanation
