-- The lines of the steps of a run of a clock text.
use Rattle.std.specs.Prelude.{ℕ, List}
use Rattle.armus_base.specs.Plans.{Plan}
use Rattle.armus_base.specs.States.{Step}
use Rattle.explain_steps.specs.ShownSteps.{ShowSteps}
use Rattle.clock_syntax.specs.Trees.{ClockTree}
use Rattle.clock_semantics.specs.Unfolding.{ClockUnfolding}
use Rattle.explain_steps.specs.OpFacts.{AreOpFacts, OpFacts}
use Rattle.explain_steps.specs.ClockStepWords.{clock_step_line}

-- the lines that show the steps of this run of the plan of the text, which is this program, with its unfolding
pub record AreClockShown (text : List ℕ) (p : ClockTree) (u : ClockUnfolding) (plan : Plan) (h : List Step) (lines : List ℕ) : Type 0 where
  pub facts : OpFacts
  pub are_facts : AreOpFacts text p u facts
  pub shows : ShowSteps (clock_step_line facts) plan h lines
