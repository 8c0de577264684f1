-- The end of a run is explained, with its steps or without.
use Rattle.std.proofs.Common.{◌≡◌, ◌++◌, ◌∙◌, ℕ, Bool, List, ap, subst, sym}
use Rattle.std.specs.Prelude.{Ok, if◌then◌else◌}
use mathlib.Core.Path.{fun_ext}
use Rattle.armus_base.proofs.PlacesFixState.{places_fix_state}
use Rattle.armus_base.specs.CheckedPlans.{IsCheckedPlan}
use Rattle.armus_base.specs.Places.{done_by, state_at}
use Rattle.armus_base.specs.Plans.{Plan}
use Rattle.armus_base.specs.Runs.{Place, places, state_after}
use Rattle.armus_base.specs.States.{State, Step}
use Rattle.pl_core.specs.calls.Worlds.{WorldValue, places_of, state_of}
use Rattle.pl_plan.specs.Unfolding.{plan_of}
use Rattle.pl_syntax.specs.Grammar.{IsText}
use Rattle.pl_syntax.specs.declared.tree.Program.{Program}
use Rattle.explain_deadlock.specs.calls.RunEnds.{WaitersStay}
use Rattle.explain_deadlock.specs.declared.explaining.Explanation.{Explanation}
use Rattle.explain_facts.specs.RunStates.{done_after}
use Rattle.explain_deadlock.proofs.RestsAtEnd.{rests_at_end}
use Rattle.explain_steps.specs.calls.SerialRuns.{IsWholeSerialRun}
use Rattle.explain_steps.specs.calls.SteppedRuns.{IsSteppedRun}
use Rattle.explain_steps.specs.declared.stepping.SteppedRun.{SteppedRun}
use Rattle.explain_steps.proofs.SerialIsPlain.{serial_is_plain}
use Rattle.world_runs.specs.calls.EndWorlds.{IsEndWorld}
use Rattle.program_io.specs.Texts.{Text}
use Rattle.program_io.specs.Programs.{IsPlanOf}
use Rattle.program_io.proofs.OnePlan.{checked_plan}
use Rattle.explain.specs.Explained.{IsEndedRunOf, IsExplanationOf, IsToldAt}
use Rattle.explain.specs.Requests.{Form}
use Rattle.explain.specs.Stepped.{AreStepsOf}

-- the whole serial run ends in the world to whose places it leads
abbrev pub serial_world : (plan : Plan) (w : WorldValue) (steps : List Step) → w.plan ≡ plan → IsWholeSerialRun plan steps → places_of w ≡ places steps → IsEndWorld plan w
serial_world plan w steps plan_is whole there = record {
  plan_is = plan_is;
  steps = steps;
  run = serial_is_plain plan steps whole.serial;
  maximal = whole.maximal;
  there = λ t. ap (λ (a : ℕ → Place). a t) (sym there);
}

-- so does a run that was made step by step
abbrev pub stepped_world : (text : Text) (p : Program) (plan : Plan) (s : SteppedRun) → IsSteppedRun text p plan s → IsEndWorld plan s.world
stepped_world text p plan s run = serial_world plan s.world run.steps run.plan_is run.whole run.there

-- the state of the world in which a run ends is that of the run
pub end_state : (plan : Plan) (w : WorldValue) → IsCheckedPlan plan → (end : IsEndWorld plan w) → state_after end.steps ≡ state_of w
unfolding state_of
end_state plan w checked end =
    places_fix_state plan end.steps checked end.run.0 ∙ ap (state_at plan) (fun_ext end.there) ∙ ap (λ (q : Plan). state_at q (places_of w)) (sym end.plan_is)

-- and so are the counts of actions
pub end_counts : (plan : Plan) (w : WorldValue) (end : IsEndWorld plan w) → done_after end.steps ≡ done_by (places_of w)
end_counts plan w end = ap done_by (fun_ext end.there)

-- a run that was made step by step for the same text and program is one of them
pub stepped_same : (a b : Text) (p q : Program) (plan : Plan) (s : SteppedRun) → a ≡ b → p ≡ q → IsSteppedRun a p plan s → IsSteppedRun b q plan s
stepped_same a b p q plan s same_text same_program run =
    subst (λ (x : Text). IsSteppedRun x q plan s) same_text (subst (λ (x : Program). IsSteppedRun a x plan s) same_program run)

module _ (form : Form) (text : Text) (p : Program) (plan : Plan) (reads : IsText text p) (unfolds : plan_of p ≡ Ok plan) where
  plan_is : IsPlanOf text plan
  plan_is = (p, record { reads = reads; unfolds = unfolds })

  module _ (w : WorldValue) (end : IsEndWorld plan w) where
    -- who waits there stays
    pub waiters_stay : WaitersStay (state_of w)
    waiters_stay =
        let checked = checked_plan text plan plan_is in
        subst WaitersStay (end_state plan w checked end) (rests_at_end plan end.steps checked end.run.0 end.maximal)

    ended_run : IsEndedRunOf text plan end.steps
    ended_run = record { plan_is = plan_is; run = end.run; maximal = end.maximal }

    -- what explains the world explains the state to which the run leads
    explains_run : (lines : Text) (waits : Bool) → IsToldAt form text w.plan (state_of w) (done_by (places_of w)) lines waits
        → IsToldAt form text plan (state_after end.steps) (done_after end.steps) lines waits
    explains_run lines waits explains =
        let done = done_by (places_of w) in
        let by_plan : IsToldAt form text plan (state_of w) done lines waits = subst (λ (q : Plan). IsToldAt form text q (state_of w) done lines waits) end.plan_is explains in
        let by_state : IsToldAt form text plan (state_after end.steps) done lines waits =
        subst (λ (s : State). IsToldAt form text plan s done lines waits) (sym (end_state plan w (checked_plan text plan plan_is) end)) by_plan in
        subst (λ (d : ℕ → ℕ). IsToldAt form text plan (state_after end.steps) d lines waits) (sym (end_counts plan w end)) by_state

    pub end_explained : (x : Explanation) (status : ℕ) → IsToldAt form text w.plan (state_of w) (done_by (places_of w)) x.lines x.has_waiting
        → status ≡ (if x.has_waiting then 1 else 0) → IsExplanationOf form text status x.lines
    end_explained x status explains status_is = record {
      plan = plan;
      steps = end.steps;
      ended = ended_run;
      waits = x.has_waiting;
      explains = explains_run x.lines x.has_waiting explains;
      status_is = status_is;
    }

  pub stepped_explained : (s : SteppedRun) → IsSteppedRun text p plan s → (x : Explanation) (status : ℕ) (lines : Text)
      → IsToldAt form text s.world.plan (state_of s.world) (done_by (places_of s.world)) x.lines x.has_waiting → status ≡ (if x.has_waiting then 1 else 0)
      → lines ≡ s.lines ++ x.lines → AreStepsOf form text status lines
  stepped_explained s run x status lines explains status_is lines_are =
      let end = stepped_world text p plan s run in
      record {
        plan = plan;
        steps = run.steps;
        ended = ended_run s.world end;
        serial = run.whole.serial;
        program = p;
        shown = s.lines;
        are_shown = run.shown;
        explanation = x.lines;
        waits = x.has_waiting;
        explains = explains_run s.world end x.lines x.has_waiting explains;
        status_is = status_is;
        lines_are = lines_are;
      }
