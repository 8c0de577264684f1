-- The end of the serial avoided run.
use Rattle.std.proofs.Common.{◌≡◌, List, [], length, sym, ◌∙◌, ap, subst}
use Rattle.armus_base.specs.CheckedPlans.{IsCheckedPlan}
use Rattle.armus_base.specs.Deadlocks.{NobodyDead}
use Rattle.armus_base.specs.Finals.{final_of}
use Rattle.armus_base.specs.Plans.{Plan}
use Rattle.armus_base.specs.Runs.{places, state_after}
use Rattle.armus_base.specs.Serial.{IsSerialAvoidedEnd, IsSerialAvoidedRun, RoundBelow, opens, rounds}
use Rattle.armus_base.specs.States.{Step}
use Rattle.armus_base.proofs.OneSerialEnd.{one_serial_end}
use Rattle.armus_base.proofs.SerialFinalIsAvoided.{serial_final_is_avoided}
use Rattle.pl_core.specs.calls.Worlds.{IsOpeningWorld, WorldValue, places_at, places_of, state_of}
use Rattle.pl_core.proofs.Opening.{first_places}
use Rattle.avoider.specs.calls.Decisions.{HasGoneOn}
use Rattle.world_runs.specs.calls.AvoidedRuns.{IsAvoidedEnd, IsSerialEnd}
use Rattle.world_runs.specs.declared.ending.WorldEnd.{WorldEnd}
use Rattle.world_runs.specs.inside.WorldRounds.{HasEndedBy}
use Rattle.world_runs.proofs.AvoidedSteps.{leads_state}
use Rattle.world_runs.proofs.JudgedRuns.{HasEndOf, HasRunOf, end_there}

-- the serial run leads to the world, and has ended there
abbrev pub HasSerialRun : Plan → WorldValue → Type 0
HasSerialRun plan = HasRunOf (IsSerialAvoidedRun plan) plan

abbrev pub HasSerialEnd : Plan → WorldValue → Type 0
HasSerialEnd plan = HasEndOf (IsSerialAvoidedRun plan) plan

-- it goes by whole rounds
pub serial_kept : (plan : Plan) (h g : List Step) → IsSerialAvoidedRun plan h → RoundBelow plan (length plan.parents) h g → IsSerialAvoidedRun plan g
serial_kept plan h g run round = rounds run round

-- the empty run leads to the opening world
pub serial_begun : (plan : Plan) (w : WorldValue) → IsOpeningWorld plan w → HasSerialRun plan w
serial_begun plan w opening = record { steps = []; run = opens; leads = record { plan_is = opening.plan_is; run = tt; there = there } }
  where
    there : places [] ≡ places_of w
    there = sym (ap (places_at w.plan) opening.places ∙ first_places w.plan (length plan.parents))

-- the value of the end
serial_value :
    (plan : Plan) (e : WorldEnd) → IsCheckedPlan plan → HasSerialEnd plan e.world → NobodyDead (state_of e.world) → e.end ≡ final_of e.world.plan (state_of e.world) →
    IsSerialEnd plan e.end
serial_value plan e checked end nobody is =
    let ended : IsSerialAvoidedEnd plan end.steps = (end.run, end.round) in
    let state = leads_state plan checked end.steps e.world end.leads in
    record {
      state = state_of e.world;
      final = record { steps = end.steps; ended = ended; there = state };
      every = λ h other. ap state_after (one_serial_end plan h end.steps checked other ended) ∙ state;
      nobody = nobody;
      is_it = is ∙ ap (λ q. final_of q (state_of e.world)) end.leads.plan_is;
    }

-- what rounds from the opening world come to is the end of the serial run
pub serial_end :
    (plan : Plan) (w : WorldValue) (e : WorldEnd) → IsOpeningWorld plan w → HasEndedBy HasGoneOn (λ v. NobodyDead (state_of v)) w e → IsSerialEnd plan e.end
serial_end plan w e opening by =
    let checked = subst IsCheckedPlan (by.same_plan ∙ opening.plan_is) by.checked in
    serial_value plan e checked
    (end_there (IsSerialAvoidedRun plan) plan (serial_kept plan) checked by.rounds by.last (serial_begun plan w opening)) by.kept by.value

-- and of a maximal avoided run
pub serial_is_avoided :
    (plan : Plan) (w : WorldValue) (e : WorldEnd) → IsOpeningWorld plan w → HasEndedBy HasGoneOn (λ v. NobodyDead (state_of v)) w e → IsAvoidedEnd plan e.end
serial_is_avoided plan w e opening by =
    let checked = subst IsCheckedPlan (by.same_plan ∙ opening.plan_is) by.checked in
    let is = serial_end plan w e opening by in
    record { state = is.state; final = serial_final_is_avoided plan is.state checked is.final; nobody = is.nobody; is_it = is.is_it }
