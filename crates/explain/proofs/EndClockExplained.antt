-- The end of a run of a clock text is explained, with its steps or without.
use Rattle.std.proofs.Common.{◌≡◌, ◌∙◌, ◌++◌, ℕ, Bool, subst, sym}
use Rattle.std.specs.Prelude.{Ok, if◌then◌else◌}
use Rattle.armus_base.specs.Places.{done_by}
use Rattle.armus_base.specs.CheckedPlans.{IsCheckedPlan}
use Rattle.armus_base.specs.Plans.{Plan}
use Rattle.armus_base.specs.Runs.{IsMaximal, IsPlainRun, state_after}
use Rattle.armus_base.specs.States.{State}
use Rattle.pl_core.specs.calls.Worlds.{WorldValue, places_of, state_of}
use Rattle.explain_facts.specs.RunStates.{done_after}
use Rattle.explain_steps.specs.SerialRuns.{IsSerialRun}
use Rattle.explain_steps.specs.declared.stepping.SteppedRun.{SteppedRun}
use Rattle.clock_syntax.specs.Grammar.{IsClockText}
use Rattle.clock_syntax.specs.Trees.{ClockTree}
use Rattle.clock_semantics.specs.Unfolding.{ClockUnfolding, clock_plan_of, clock_unfolded, plan_of_moves}
use Rattle.explain_clock.specs.declared.explaining.ClockExplanation.{ClockExplanation}
use Rattle.explain_steps.specs.ShownClockSteps.{AreClockShown}
use Rattle.explain_steps.specs.calls.SteppedClocks.{IsSteppedClockRun}
use Rattle.world_runs.specs.calls.EndWorlds.{IsEndWorld}
use Rattle.program_io.specs.Texts.{Text}
use Rattle.explain.specs.ClockExplained.{AreToldActivities, IsClockExplanationOf, IsMaximalClockRun}
use Rattle.explain.specs.Requests.{Form}
use Rattle.explain.specs.ClockStepped.{AreClockStepsOf}
use Rattle.explain.proofs.ClockEnds.{checked_moves, clock_run}
use Rattle.explain.proofs.EndExplained.{end_counts, end_state, serial_world}
use Rattle.clock_source_map.proofs.AllOrigins.{unfolding_of_plan}

module _ (form : Form) (text : Text) (p : ClockTree) (plan : Plan) (reads : IsClockText text p) (unfolds : clock_plan_of p ≡ Ok plan) where
  module _ (u : ClockUnfolding) (opens : clock_unfolded p ≡ Ok u) (same : plan_of_moves u ≡ plan) (w : WorldValue) (end : IsEndWorld plan w) where
    ended_run : IsMaximalClockRun text p u end.steps
    ended_run =
        let run : IsPlainRun (plan_of_moves u) end.steps = subst (λ (q : Plan). IsPlainRun q end.steps) (sym same) end.run in
        let maximal : IsMaximal (plan_of_moves u) end.steps = subst (λ (q : Plan). IsMaximal q end.steps) (sym same) end.maximal in
        clock_run text p u end.steps reads opens run maximal

    -- what explains the world explains the state to which the run leads
    explains_run : (lines : Text) (waits : Bool) → AreToldActivities form text p u w.plan (state_of w) (done_by (places_of w)) lines waits
        → AreToldActivities form text p u (plan_of_moves u) (state_after end.steps) (done_after end.steps) lines waits
    explains_run lines waits explains =
        let done = done_by (places_of w) in
        let checked : IsCheckedPlan plan = subst IsCheckedPlan same (checked_moves p u opens) in
        let by_plan : AreToldActivities form text p u (plan_of_moves u) (state_of w) done lines waits =
        subst (λ (q : Plan). AreToldActivities form text p u q (state_of w) done lines waits) (end.plan_is ∙ sym same) explains in
        let by_state : AreToldActivities form text p u (plan_of_moves u) (state_after end.steps) done lines waits =
        subst (λ (s : State). AreToldActivities form text p u (plan_of_moves u) s done lines waits) (sym (end_state plan w checked end)) by_plan in
        subst (λ (d : ℕ → ℕ). AreToldActivities form text p u (plan_of_moves u) (state_after end.steps) d lines waits) (sym (end_counts plan w end)) by_state

  pub clock_end_explained : (w : WorldValue) → IsEndWorld plan w → (x : ClockExplanation) (status : ℕ)
      → ((u : ClockUnfolding) → clock_unfolded p ≡ Ok u → AreToldActivities form text p u w.plan (state_of w) (done_by (places_of w)) x.lines x.has_waiting)
      → status ≡ (if x.has_waiting then 1 else 0) → IsClockExplanationOf form text status x.lines
  clock_end_explained w end x status explains status_is =
      let (u, opens, same) = unfolding_of_plan p plan unfolds in
      record {
        program = p;
        unfolded = u;
        steps = end.steps;
        ended = ended_run u opens same w end;
        waits = x.has_waiting;
        explains = explains_run u opens same w end x.lines x.has_waiting (explains u opens);
        status_is = status_is;
      }

  module _ (s : SteppedRun) (stepped : (u : ClockUnfolding) → clock_unfolded p ≡ Ok u → IsSteppedClockRun text p u plan s) where
    -- what is known of the run by its text's unfolding
    pub stepped_run : (u : ClockUnfolding) × IsSteppedClockRun text p u plan s
    stepped_run = (let (u, opens, same) = unfolding_of_plan p plan unfolds in (u, stepped u opens))

    pub clock_steps_explained : (x : ClockExplanation) (status : ℕ) (lines : Text)
        → ((u : ClockUnfolding) → clock_unfolded p ≡ Ok u → AreToldActivities form text p u s.world.plan (state_of s.world) (done_by (places_of s.world)) x.lines x.has_waiting)
        → status ≡ (if x.has_waiting then 1 else 0) → lines ≡ s.lines ++ x.lines → AreClockStepsOf form text status lines
    clock_steps_explained x status lines explains status_is lines_are =
        let (u, opens, same) = unfolding_of_plan p plan unfolds in
        let run = stepped u opens in
        let end = serial_world plan s.world run.steps run.plan_is run.whole run.there in
        record {
          program = p;
          unfolded = u;
          steps = run.steps;
          ended = ended_run u opens same s.world end;
          serial = subst (λ (q : Plan). IsSerialRun q run.steps) (sym same) run.whole.serial;
          shown = s.lines;
          are_shown = subst (λ (q : Plan). AreClockShown text p u q run.steps s.lines) (sym same) run.shown;
          explanation = x.lines;
          waits = x.has_waiting;
          explains = explains_run u opens same s.world end x.lines x.has_waiting (explains u opens);
          status_is = status_is;
          lines_are = lines_are;
        }
