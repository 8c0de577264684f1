use Rattle.std.proofs.Common.{◌∙◌, ℕ, List, Option, ap, arith, length, refl, subst, sym}
use Rattle.std.specs.Prelude.{option_copied}
use Rattle.armus_base.specs.declared.ending.Final.{Final}
use Rattle.armus_base.specs.Finals.{end_of, is_awaited}
use Rattle.armus_base.specs.calls.Statuses.{IsInOrder}
use Rattle.armus_base.proofs.Below.{length-list_below}
use Rattle.armus_base.proofs.StatusesAre.{statuses_are}
use Rattle.armus_base.specs.Places.{done_by}
use Rattle.pl_core.specs.calls.Worlds.{places_of, state_of}
use Rattle.clock_semantics.specs.Unfolding.{plan_of_moves}
use Rattle.clock_source_map.proofs.AllOrigins.{unfolding_of_plan}
use Rattle.clock_source_map.proofs.Walked.{same_unfolding}
use Rattle.clock_source_map.specs.ClockOrigins.{all_waits}
use Rattle.armus_base.specs.Plans.{Plan}
use Rattle.explain_clock.specs.ClockExplanations.{clock_lines}
use Rattle.explain_clock.specs.ClockFacts.{AreWaitsAt, ClockFacts}
use Rattle.explain_clock.proofs.KnownTexts.{known_text}
use Rattle.explain_clock.proofs.explaining.clock_explanation_of.Goals as goal

pub new-requires-clause-unfolds : goal.new-requires-clause-unfolds
new-requires-clause-unfolds c =
    let (u, is, of) = unfolding_of_plan c.args.program.now.body c.args.world.now.plan c.requires.plan in
    (u, is)

pub explain_layout-requires : goal.explain_layout-requires
explain_layout-requires c = record {
  few = (let ends = ap (λ (f : Final). length f.ends) c.requires.end in
      let sized = length-list_below (end_of (state_of c.args.world.now)) (length c.args.world.now.plan.parents) in
      let few = c.plan-plan.ensures.checked.limits.few_tasks in omega (arith, ends, sized, few));
  in_order = subst (λ (e : Final). IsInOrder e.blocked) (sym c.requires.end)
      (statuses_are c.args.world.now.plan (state_of c.args.world.now) (is_awaited c.args.world.now.plan (state_of c.args.world.now)) c.plan-plan.ensures.checked).in_order;
}

pub returns : goal.returns
unfolding state_of
returns c = λ u is.
    let origins = c.in_ok-layout.ensures.origins u is in
    let f : ClockFacts = record {
      of_text = record {
        text = c.args.places.now;
        file = option_copied c.args.file;
        offsets = c.in_ok-layout.layout.offsets;
        begun = c.in_ok-layout.layout.origins.begun;
        things = c.in_ok-layout.layout.origins.things;
      };
      ends = c.args.end.now.ends;
      blocked = c.args.end.now.blocked;
      waits = c.in_ok-waits.waits.items;
    } in
    let told = c.in_ok-explanation.ensures f refl in
    let (v, v_is, of_v) = unfolding_of_plan c.args.program.now.body c.args.world.now.plan c.requires.plan in
    record {
      reads = c.requires.reads;
      unfolds = is;
      plan_is = sym of_v ∙ ap plan_of_moves (same_unfolding c.args.program.now.body v u v_is is);
      facts = f;
      are_facts = record {
        text_facts = known_text (option_copied c.args.file) c.args.places.now c.text.result.now c.args.program.now.body u c.in_ok-layout.layout.offsets
            c.in_ok-layout.layout.origins f.of_text refl c.in_ok-layout.ensures.offsets c.text.ensures.text origins;
        ends_are = ap (λ (e : Final). e.ends) c.requires.end;
        blocked_are = ap (λ (e : Final). e.blocked) c.requires.end;
        waits_are = subst (λ (os : List (List (Option ℕ))). AreWaitsAt (all_waits u) os c.args.world.now.plan (state_of c.args.world.now) (done_by (places_of c.args.world.now)) c.in_ok-waits.waits.items)
            (c.as_slice.ensures.items ∙ c.in_ok-ops.ensures u is)
            (subst (λ w. AreWaitsAt w c.as_slice.result.now c.args.world.now.plan (state_of c.args.world.now) (done_by (places_of c.args.world.now)) c.in_ok-waits.waits.items) origins.waits c.in_ok-waits.ensures);
      };
      circle = told.0.0;
      circle_is = told.0.1;
      lines_are = told.0.2 ∙ ap (λ (p : Plan). clock_lines f p told.0.0) c.plan-plan.ensures.plan;
      waits_are = told.1;
    }
