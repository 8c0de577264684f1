-- The runs that lead through turns and whole rounds in which awaits are decided.
use Rattle.std.proofs.Common.{◌≡◌, ℕ, zero, suc, Bool, true, false, List, length, add-one, sym, ◌∙◌, ap, subst, refl}
use Rattle.armus_base.specs.CheckedPlans.{IsCheckedPlan}
use Rattle.armus_base.specs.Plans.{Plan}
use Rattle.armus_base.specs.Runs.{IsReachable}
use Rattle.armus_base.specs.Serial.{RoundBelow}
use Rattle.armus_base.specs.States.{Step}
use Rattle.pl_core.specs.calls.Worlds.{WorldValue, places_of, state_of}
use Rattle.avoider.specs.calls.Decisions.{HasGoneOn}
use Rattle.avoider.proofs.SamePlan.{gone_on_plan}
use Rattle.world_runs.specs.inside.AvoidedRounds.{GoesOnTo, HasPart, HasRoundBelow, LeadsTo}
use Rattle.world_runs.specs.inside.WorldRounds.{GoesBy, GoesByRounds, HasTurnIf, HaveTurns, IsRoundBy, begun, round, stays, steps}
use Rattle.world_runs.proofs.AvoidedEnds.{forked_still, reached_by, round_begun, round_more, turn_left_out, turn_taken}
use Rattle.world_runs.proofs.AvoidedSteps.{goes_more, goes_none, gone_on_adds}

-- each run that leads to the old world goes on by the same steps
goes_to :
    {t : ℕ} {old new : WorldValue} {moved : Bool} → IsCheckedPlan old.plan → GoesBy HasGoneOn t old new moved → (new.plan ≡ old.plan) × GoesOnTo old new t moved
goes_to {t} {old} checked stays = (refl, goes_none old t)
goes_to {t} {old} {new} checked (steps {mid} {moved} goes step) =
    let before = goes_to checked goes in
    let here = subst IsCheckedPlan (sym before.0) checked in
    (gone_on_plan mid new t step ∙ before.0, goes_more old mid new t moved here before.0 before.1 (gone_on_adds mid new here t step))

part_to :
    (t : ℕ) (has : Bool) (old new : WorldValue) (moved : Bool) → IsCheckedPlan old.plan → (has ≡ true → (state_of old).forked t ≡ true) →
    HasTurnIf HasGoneOn t has old new moved → (new.plan ≡ old.plan) × HasPart old new t has moved
part_to t true old new moved checked forked turn =
    let goes = goes_to checked turn.goes in
    (goes.0, turn_taken old new t moved checked goes.0 (forked refl) goes.1 turn.ended)
part_to t false old new moved checked forked same = (
  ap (λ v. v.plan) same.0,
  subst (λ m. HasPart old new t false m) (sym same.1) (subst (λ v. HasPart old v t false false) (sym same.0) (turn_left_out old t)),
)

module _ (first : WorldValue) (checked : IsCheckedPlan first.plan) (reach : IsReachable first.plan (places_of first)) where
  -- each run that leads to the first world leads through the same turns
  turns_to : (k : ℕ) (new : WorldValue) (moved : Bool) → HaveTurns HasGoneOn first k new moved → (new.plan ≡ first.plan) × HasRoundBelow first new k moved
  turns_to zero new moved same = (
    ap (λ v. v.plan) same.0,
    subst (λ m. HasRoundBelow first new 0 m) (sym same.1) (subst (λ v. HasRoundBelow first v 0 false) (sym same.0) (round_begun first)),
  )
  turns_to (suc k) new moved (mid, before, acted, early, turn, both) =
      let early' = turns_to k mid before early in
      let has = (state_of first).forked k in
      let part =
      part_to k has mid new acted (subst IsCheckedPlan (sym early'.0) checked) (forked_still first mid k k before checked reach early'.1) turn in (
        part.0 ∙ early'.0,
        subst (λ n. HasRoundBelow first new n moved) (add-one k)
            (round_more first mid new k has before acted moved checked early'.0 refl early'.1 part.1 both),
      )

-- a run of the kind leads to the world
pub record HasRunOf (Kind : List Step → Type 0) (plan : Plan) (w : WorldValue) : Type 0 where
  pub steps : List Step
  pub run : Kind steps
  pub leads : LeadsTo plan steps w

-- and one more round has no step
pub record HasEndOf (Kind : List Step → Type 0) (plan : Plan) (w : WorldValue) : Type 0 where
  pub steps : List Step
  pub run : Kind steps
  pub round : RoundBelow plan (length plan.parents) steps steps
  pub leads : LeadsTo plan steps w

-- runs of a kind that whole rounds lead on
module _ (Kind : List Step → Type 0) (plan : Plan) (kept : (h g : List Step) → Kind h → RoundBelow plan (length plan.parents) h g → Kind g) where
  pub run_more : (old new : WorldValue) (moved : Bool) → HasRunOf Kind plan old → HasRoundBelow old new (length old.plan.parents) moved → HasRunOf Kind plan new
  run_more old new moved one more =
      let is = one.leads.plan_is in
      let there : LeadsTo old.plan one.steps old = subst (λ q. LeadsTo q one.steps old) (sym is) one.leads in
      let run = more one.steps there in
      record {
        steps = run.0;
        run = kept one.steps run.0 one.run (subst (λ q. RoundBelow q (length q.parents) one.steps run.0) is run.2);
        leads = subst (λ q. LeadsTo q run.0 new) is run.1;
      }

  pub run_ended :
      (old new : WorldValue) (moved : Bool) → moved ≡ false → HasRunOf Kind plan old → HasRoundBelow old new (length old.plan.parents) moved → HasEndOf Kind plan new
  run_ended old new moved unmoved one more =
      let is = one.leads.plan_is in
      let there : LeadsTo old.plan one.steps old = subst (λ q. LeadsTo q one.steps old) (sym is) one.leads in
      let run = more one.steps there in
      let same = run.3 unmoved in
      record {
        steps = one.steps;
        run = one.run;
        round =
            subst (λ q. RoundBelow q (length q.parents) one.steps one.steps) is
            (subst (λ g. RoundBelow old.plan (length old.plan.parents) one.steps g) same run.2);
        leads = subst (λ q. LeadsTo q one.steps new) is (subst (λ g. LeadsTo old.plan g new) same run.1);
      }

  module _ (checked : IsCheckedPlan plan) where
    round_here : (old new : WorldValue) (moved : Bool) → HasRunOf Kind plan old → IsRoundBy HasGoneOn old new moved → HasRoundBelow old new (length old.plan.parents) moved
    round_here old new moved one turns =
        (turns_to old (subst IsCheckedPlan (sym one.leads.plan_is) checked) (reached_by plan one.steps old one.leads) (length old.plan.parents) new moved turns).1

    -- through rounds in a world
    pub rounds_lead : {old new : WorldValue} → GoesByRounds HasGoneOn old new → HasRunOf Kind plan old → HasRunOf Kind plan new
    rounds_lead begun one = one
    rounds_lead {old} {new} (round {mid} moved before turns) one =
        let here = rounds_lead before one in
        run_more mid new moved here (round_here mid new moved here turns)

    -- to where one more has no step
    pub end_there : {old new : WorldValue} → GoesByRounds HasGoneOn old new → IsRoundBy HasGoneOn new new false → HasRunOf Kind plan old → HasEndOf Kind plan new
    end_there {old} {new} rounds last one =
        let here = rounds_lead rounds one in
        run_ended new new false refl here (round_here new new false here last)
