-- An avoided run goes on by rounds in order of number until nobody may go on.
use mathlib.Core.Path.{fun_ext}
use Rattle.std.proofs.Common.{◌≡◌, ℕ, true, None, List, length, arith, sym, ◌∙◌, ap, subst}
use Rattle.std.specs.Prelude.{Option}
use Rattle.std.proofs.lemmas.Option.{slice_get_within}
use Rattle.armus_base.specs.Avoidance.{IsAvoidedRun}
use Rattle.armus_base.specs.calls.Boards.{IsLawful, steps_of}
use Rattle.armus_base.specs.CheckedPlans.{IsCheckedPlan}
use Rattle.armus_base.specs.Deadlocks.{NobodyDead}
use Rattle.armus_base.specs.Finals.{final_of}
use Rattle.armus_base.specs.Plans.{Plan}
use Rattle.armus_base.proofs.ForkedTasks.{forked_within}
use Rattle.armus_base.proofs.NobodyIsDead.{avoided_legal, nobody_is_dead}
use Rattle.armus_base.proofs.SerialFinalIsAvoided.{round_ended}
use Rattle.armus_base.proofs.SerialIsAvoided.{round_avoided}
use Rattle.pl_core.specs.declared.place.Place.{Place as KeptPlace}
use Rattle.pl_core.specs.calls.GivenPlaces.{IsAtPlaces}
use Rattle.pl_core.specs.calls.Worlds.{WorldValue, places_at, state_of}
use Rattle.avoider.specs.calls.Decisions.{HasGoneOn}
use Rattle.world_runs.specs.calls.AvoidedRuns.{IsAvoidedEnd}
use Rattle.world_runs.specs.declared.ending.WorldEnd.{WorldEnd}
use Rattle.world_runs.specs.inside.WorldRounds.{HasEndedBy}
use Rattle.world_runs.proofs.AvoidedSteps.{leads_state}
use Rattle.world_runs.proofs.JudgedRuns.{HasEndOf, HasRunOf, end_there}

-- an avoided run leads to the world
abbrev pub HasAvoidedRun : Plan → WorldValue → Type 0
HasAvoidedRun plan = HasRunOf (IsAvoidedRun plan) plan

-- one leads to lawful places
pub avoided_there :
    (plan : Plan) (given : List KeptPlace) (w : WorldValue) → IsAtPlaces plan given w → (lock : Option ℕ) → IsLawful true plan (places_at plan given) lock → HasAvoidedRun plan w
avoided_there plan given w at lock lawful = record {
  steps = steps_of lawful.entries;
  run = lawful.run.0;
  leads = record {
    plan_is = at.plan_is;
    run = avoided_legal plan (steps_of lawful.entries) lawful.run.0;
    there = fun_ext lawful.there ∙ (λ i. places_at (sym at.plan_is i) (sym at.places i));
  };
}

-- nobody is dead there
pub avoided_nobody : (plan : Plan) (w : WorldValue) → IsCheckedPlan plan → HasAvoidedRun plan w → NobodyDead (state_of w)
avoided_nobody plan w checked r = subst NobodyDead (leads_state plan checked r.steps w r.leads) (nobody_is_dead plan r.steps checked r.run)

-- the value of the end
avoided_value :
    (plan : Plan) (e : WorldEnd) → IsCheckedPlan plan → HasEndOf (IsAvoidedRun plan) plan e.world → NobodyDead (state_of e.world) →
    e.end ≡ final_of e.world.plan (state_of e.world) → IsAvoidedEnd plan e.end
avoided_value plan e checked end nobody is = record {
  state = state_of e.world;
  final = record {
    steps = end.steps;
    run = end.run;
    maximal = λ t forked.
        round_ended plan (length plan.parents) end.steps end.steps end.round (omega arith) t
        (forked_within plan (slice_get_within plan.parents 0 None checked.tables.root) end.steps (avoided_legal plan end.steps end.run) t forked) forked;
    there = leads_state plan checked end.steps e.world end.leads;
  };
  nobody = nobody;
  is_it = is ∙ ap (λ q. final_of q (state_of e.world)) end.leads.plan_is;
}

-- what rounds come to from where an avoided run has led is the end of one
pub avoided_end :
    (plan : Plan) (w : WorldValue) (e : WorldEnd) → HasAvoidedRun plan w → HasEndedBy HasGoneOn (λ v. NobodyDead (state_of v)) w e → IsAvoidedEnd plan e.end
avoided_end plan w e run by =
    let checked = subst IsCheckedPlan (by.same_plan ∙ run.leads.plan_is) by.checked in
    avoided_value plan e checked
    (end_there (IsAvoidedRun plan) plan (round_avoided plan checked (length plan.parents)) checked by.rounds by.last run) by.kept by.value
