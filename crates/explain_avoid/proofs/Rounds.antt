-- Whole rounds, from the opening of a plan to the end of its serial avoided run.
use Rattle.std.proofs.Common.{◌≡◌, ◌∙◌, ℕ, false, List, [], Option, length, ap, refl, subst, sym}
use Rattle.armus_base.specs.declared.ending.Final.{Final}
use Rattle.armus_base.specs.Finals.{final_of}
use Rattle.armus_base.specs.Plans.{Plan}
use Rattle.armus_base.specs.Runs.{places}
use Rattle.armus_base.specs.Serial.{IsSerialAvoidedRun, RoundBelow, opens, rounds}
use Rattle.armus_base.specs.States.{Step}
use Rattle.pl_core.specs.calls.Worlds.{IsOpeningWorld, places_at, places_of, state_of}
use Rattle.pl_core.proofs.Opening.{first_places}
use Rattle.pl_syntax.specs.declared.tree.Program.{Program}
use Rattle.explain_facts.specs.Accounts.{Layout}
use Rattle.explain_facts.specs.calls.Known.{AreKnownFacts, kept_layout}
use Rattle.explain_facts.specs.declared.facts.TextFacts.{TextFacts}
use Rattle.explain_avoid.specs.AvoidedExplanations.{AreRefusalsOf}
use Rattle.explain_avoid.specs.Refusals.{AreRefusals}
use Rattle.explain_avoid.specs.calls.AvoidedRuns.{IsRunWithRefusals}
use Rattle.explain_avoid.specs.declared.avoiding.AvoidedRun.{AvoidedRun}
use Rattle.explain_avoid.specs.declared.avoiding.Avoiding.{Avoiding}
use Rattle.explain_avoid.specs.inside.SoFar.{HasEndedSo, AreRefusalsSoFar, RoundTo}

module _ (file : Option (List ℕ)) (l : Layout) (p : Program) (plan : Plan) where
  -- the serial avoided run has come there
  pub record HasCome (a : Avoiding) : Type 0 where
    pub steps : List Step
    pub run : IsSerialAvoidedRun plan steps
    pub plan_is : a.world.plan ≡ plan
    pub so_far : AreRefusalsSoFar file l p steps a

  pub none_yet : (a : Avoiding) → IsOpeningWorld plan a.world → a.refusals.items ≡ [] → HasCome a
  none_yet a opening empty = record {
    steps = [];
    run = opens;
    plan_is = opening.plan_is;
    so_far = record { leads = record { plan_is = refl_of; run = tt; there = there }; told = empty };
  }
    where
      refl_of : a.world.plan ≡ a.world.plan
      refl_of = refl

      there : places [] ≡ places_of a.world
      there = sym (ap (places_at a.world.plan) opening.places ∙ first_places a.world.plan (length plan.parents))

  -- one round more
  pub round_comes :
      (old new : Avoiding) (moved : _) → new.world.plan ≡ old.world.plan → RoundTo file l p (length old.world.plan.parents) old new moved → HasCome old → HasCome new
  round_comes old new moved same round come =
      let led = round come.steps come.so_far in
      record {
        steps = led.0;
        run = rounds come.run (subst (λ (q : Plan). RoundBelow q (length q.parents) come.steps led.0) come.plan_is led.2);
        plan_is = same ∙ come.plan_is;
        so_far = led.1;
      }

  -- and one that adds no step
  pub round_ends :
      (old new : Avoiding) (moved : _) → moved ≡ false → new.world.plan ≡ old.world.plan → RoundTo file l p (length old.world.plan.parents) old new moved →
      HasCome old → HasEndedSo file l p plan new
  round_ends old new moved still same round come =
      let led = round come.steps come.so_far in
      let unmoved : led.0 ≡ come.steps = led.3 still in
      record {
        steps = come.steps;
        ended = (
          come.run,
          subst (λ (g : List Step). RoundBelow plan (length plan.parents) come.steps g) unmoved
              (subst (λ (q : Plan). RoundBelow q (length q.parents) come.steps led.0) come.plan_is led.2),
        );
        plan_is = same ∙ come.plan_is;
        so_far = subst (λ (g : List Step). AreRefusalsSoFar file l p g new) unmoved led.1;
      }

-- what is handed out of it
pub avoided_run :
    (facts : TextFacts) → AreKnownFacts facts → (file : Option (List ℕ)) (plan : Plan) (a : Avoiding) → HasEndedSo file (kept_layout facts) facts.program.now plan a →
    (refusals : List ℕ) (end : Final) → refusals ≡ a.refusals.items → end ≡ final_of a.world.plan (state_of a.world) → (text : List ℕ) (p : Program) →
    facts.places.now ≡ text → facts.program.now ≡ p → IsRunWithRefusals file text p plan (record { refusals = refusals; world = a.world; end = end })
avoided_run facts known file plan a ended refusals end same end_is text p text_is program_is =
    let r : AvoidedRun = record { refusals = refusals; world = a.world; end = end } in
    let by_plan : AreRefusals file (kept_layout facts) facts.program.now plan ended.steps a.refusals.items =
    subst (λ (q : Plan). AreRefusals file (kept_layout facts) facts.program.now q ended.steps a.refusals.items) ended.plan_is ended.so_far.told in
    let told : AreRefusalsOf file facts.places.now facts.program.now plan ended.steps refusals =
    record {
      reads = known.reads;
      layout = kept_layout facts;
      of_text = refl;
      is_layout = known.layout;
      each = subst (λ (x : List ℕ). AreRefusals file (kept_layout facts) facts.program.now plan ended.steps x) (sym same) by_plan;
    } in
    let whole : IsRunWithRefusals file facts.places.now facts.program.now plan r =
    record {
      steps = ended.steps;
      ended = ended.ended;
      told = told;
      plan_is = ended.plan_is;
      there = sym ended.so_far.leads.there;
      end_is = end_is ∙ ap (λ (q : Plan). final_of q (state_of a.world)) ended.plan_is;
    } in
    let by_text : IsRunWithRefusals file text facts.program.now plan r = subst (λ (t : List ℕ). IsRunWithRefusals file t facts.program.now plan r) text_is whole in
    subst (λ (q : Program). IsRunWithRefusals file text q plan r) program_is by_text
