-- What is written where the steps of a text's run are shown.
use Rattle.std.specs.Prelude.{◌≡◌, ◌++◌, ℕ, Bool, if◌then◌else◌, List}
use Rattle.armus_base.specs.Plans.{Plan}
use Rattle.armus_base.specs.Runs.{state_after}
use Rattle.armus_base.specs.States.{Step}
use Rattle.pl_syntax.specs.declared.tree.Program.{Program}
use Rattle.explain_facts.specs.RunStates.{done_after}
use Rattle.explain_steps.specs.SerialRuns.{IsSerialRun}
use Rattle.explain_steps.specs.ShownSteps.{AreShown}
use Rattle.program_io.specs.Texts.{Text}
use Rattle.explain.specs.Explained.{IsEndedRunOf, IsToldAt}
use Rattle.explain.specs.Requests.{Form}

-- The lines show the steps of the serial plain run of a text, told in this form, and then explain how its tasks stand where this run has
-- ended; and the status is 1 where by them somebody waits for ever, else 0.
pub record AreStepsOf (form : Form) (text : Text) (status : ℕ) (lines : Text) : Type 0 where
  pub plan : Plan
  pub steps : List Step
  pub ended : IsEndedRunOf text plan steps
  pub serial : IsSerialRun plan steps
  pub program : Program
  pub shown : Text
  pub are_shown : AreShown text program plan steps shown
  pub explanation : Text
  pub waits : Bool
  pub explains : IsToldAt form text plan (state_after steps) (done_after steps) explanation waits
  pub status_is : status ≡ (if waits then 1 else 0)
  pub lines_are : lines ≡ shown ++ explanation
