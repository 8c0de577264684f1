-- A logged world stays the replay of its journal.
use mathlib.Core.Path.{fun_ext}
use Rattle.std.proofs.Common.{◌≡◌, ℕ, false, [], ◌∷◌, ◌++◌, Option, Some, None, length, sym, ◌∙◌, ap, subst, refl}
use Rattle.std.specs.Prelude.{slice_get}
use Rattle.armus_base.specs.declared.ids.TaskId.{TaskId}
use Rattle.armus_base.specs.CheckedPlans.{IsCheckedPlan}
use Rattle.armus_base.specs.Plans.{Plan, action_at}
use Rattle.armus_base.specs.Places.{state_at}
use Rattle.armus_base.specs.Runs.{first_place, moved, places, state_after, IsOwnNextStep}
use Rattle.armus_base.specs.States.{IsLegal}
use Rattle.armus_base.proofs.Stepping.{places_fix}
use Rattle.armus_base.proofs.OwnSteps.{plain_longer}
use Rattle.pl_core.specs.declared.place.Place.{Place as KeptPlace}
use Rattle.pl_core.specs.calls.Moves.{IsWorldStep}
use Rattle.pl_core.specs.calls.Worlds.{IsOpeningWorld, WorldValue, place_from, places_at, state_of}
use Rattle.pl_core.proofs.Opening.{copy_is}
use Rattle.locked_world.specs.calls.Journals.{IsReplayOfJournal, LoggedValue, LogsStep}
use Rattle.locked_world.specs.calls.Laws.{ReplayedState}
use Rattle.locked_world.proofs.Journals.{journal_fixes_run, journal_leads}

-- the opening world is the replay of the empty journal
pub opening_replayed : (plan : Plan) (w : WorldValue) → IsCheckedPlan plan → IsOpeningWorld plan w → IsReplayOfJournal plan (record { world = w; journal = [] })
unfolding places_at
opening_replayed plan w checked opening =
    record {
      checked = checked;
      steps = [];
      journal = record { run = (tt, tt); tasks = refl };
      plan_is = opening.plan_is;
      there = fun_ext (λ t. at t (slice_get w.places t) refl);
    }
  where
    at : (t : ℕ) (o : Option KeptPlace) → slice_get w.places t ≡ o → place_from w.plan t o ≡ first_place
    at t None e = refl
    at t (Some a) e =
        ap (λ b. place_from w.plan t (Some b)) (copy_is (length plan.parents) t (record { events = 0; refused = false }) a (ap (λ ps. slice_get ps t) (sym opening.places) ∙ e))

-- the state of a world that is a replay
state_there : (plan : Plan) (l : LoggedValue) → (of : IsReplayOfJournal plan l) → state_of l.world ≡ state_after of.steps
unfolding state_of
state_there plan l of =
    ap (state_at l.world.plan) of.there ∙ ap (λ p. state_at p (places of.steps)) of.plan_is ∙ sym (places_fix plan of.checked of.steps of.journal.run.0).0

pub replayed_state : ReplayedState
replayed_state plan l h of journal =
    state_there plan l of
    ∙ ap state_after (journal_fixes_run plan l.journal of.steps h (journal_leads plan l.journal of.steps of.journal) (journal_leads plan l.journal h journal))

-- a world that makes a step of task t goes on with it after the run
world_goes_on :
    (plan : Plan) (l : LoggedValue) (new : WorldValue) (t : ℕ) → (of : IsReplayOfJournal plan l) → (step : IsWorldStep l.world new t) →
    IsOwnNextStep plan of.steps t step.action
world_goes_on plan l new t of step =
    record {
      by_code = ap (λ p. action_at p t (places of.steps t).done) (sym of.plan_is) ∙ ap (λ a. action_at l.world.plan t (a t).done) (sym of.there) ∙ step.next;
      legal = subst (λ p. IsLegal p (state_after of.steps) t step.action) of.plan_is (subst (λ s. IsLegal l.world.plan s t step.action) (state_there plan l of) step.legal);
    }

-- a step that is logged keeps it
pub step_replayed : (plan : Plan) (old new : LoggedValue) (t : TaskId) → IsReplayOfJournal plan old → LogsStep old new t → IsReplayOfJournal plan new
step_replayed plan old new t of logs =
    record {
      checked = of.checked;
      steps = record { task = t.0; action = logs.step.action } ∷ of.steps;
      journal = record {
        run = plain_longer plan of.steps t.0 logs.step.action of.journal.run (world_goes_on plan old new.world t.0 of logs.step);
        tasks = logs.journal ∙ ap (λ j. j ++ t ∷ []) of.journal.tasks;
      };
      plan_is = logs.step.plan ∙ of.plan_is;
      there = sym logs.step.run.4 ∙ ap (λ c. moved c t.0 logs.step.action) (sym logs.step.run.1 ∙ of.there);
    }
