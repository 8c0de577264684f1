-- A run that is shown by what is known of a text, is shown of the text.
use Rattle.std.proofs.Common.{◌≡◌, ℕ, List}
use Rattle.std.specs.Prelude.{Ok}
use Rattle.armus_base.specs.Plans.{Plan}
use Rattle.pl_plan.proofs.VisitsLeave.{bind_ok}
use Rattle.explain_steps.specs.calls.SteppedRuns.{IsRunBy}
use Rattle.explain_steps.specs.declared.stepping.SteppedRun.{SteppedRun}
use Rattle.clock_syntax.specs.Trees.{ClockTree}
use Rattle.clock_semantics.specs.Unfolding.{ClockUnfolding, clock_plan_of, clock_unfolded, plan_of_moves}
use Rattle.explain_steps.specs.ClockStepWords.{clock_step_line}
use Rattle.explain_steps.specs.OpFacts.{AreOpFacts, OpFacts}
use Rattle.explain_steps.specs.calls.SteppedClocks.{IsSteppedClockRun}

-- a program with a plan has an unfolding
pub unfolds_some : (program : ClockTree) (plan : Plan) → clock_plan_of program ≡ Ok plan → (u : ClockUnfolding) × (clock_unfolded program ≡ Ok u)
unfolding clock_plan_of
unfolds_some program plan e = let parts = bind_ok (clock_unfolded program) (λ s. Ok (plan_of_moves s)) plan e in (parts.0, parts.1)

pub stepped_clock_run : (text : List ℕ) (p : ClockTree) (u : ClockUnfolding) (plan : Plan) (f : OpFacts) (s : SteppedRun) → AreOpFacts text p u f → IsRunBy (clock_step_line f) plan s
    → IsSteppedClockRun text p u plan s
stepped_clock_run text p u plan f s are run = record {
  steps = run.steps;
  whole = run.whole;
  shown = record { facts = f; are_facts = are; shows = run.shows };
  plan_is = run.plan_is;
  there = run.there;
  end_is = run.end_is;
}
