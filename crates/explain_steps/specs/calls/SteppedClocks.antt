-- A run of a clock text that was made step by step.
use Rattle.std.specs.Prelude.{◌≡◌, ℕ, List}
use Rattle.armus_base.specs.Finals.{final_of}
use Rattle.armus_base.specs.Plans.{Plan}
use Rattle.armus_base.specs.Runs.{places}
use Rattle.armus_base.specs.States.{Step}
use Rattle.pl_core.specs.calls.Worlds.{places_of, state_of}
use Rattle.explain_steps.specs.calls.SerialRuns.{IsWholeSerialRun}
use Rattle.explain_steps.specs.declared.stepping.SteppedRun.{SteppedRun}
use Rattle.clock_syntax.specs.Trees.{ClockTree}
use Rattle.clock_semantics.specs.Unfolding.{ClockUnfolding}
use Rattle.explain_steps.specs.ShownClockSteps.{AreClockShown}

-- the lines show the steps of the serial plain run of the plan of the text, which is this program, with its unfolding; the run leads to this world, with this
-- value of its state
pub record IsSteppedClockRun (text : List ℕ) (p : ClockTree) (u : ClockUnfolding) (plan : Plan) (s : SteppedRun) : Type 0 where
  pub steps : List Step
  pub whole : IsWholeSerialRun plan steps
  pub shown : AreClockShown text p u plan steps s.lines
  pub plan_is : s.world.plan ≡ plan
  pub there : places_of s.world ≡ places steps
  pub end_is : s.end ≡ final_of plan (state_of s.world)
