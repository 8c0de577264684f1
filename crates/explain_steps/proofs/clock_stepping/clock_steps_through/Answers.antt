use Rattle.std.proofs.Common.{None, refl}
use Rattle.clock_source_map.specs.ClockOps.{all_op_origins}
use Rattle.explain_clock.specs.ClockFacts.{ClockTextValue}
use Rattle.explain_clock.proofs.KnownTexts.{known_text}
use Rattle.explain_steps.specs.OpFacts.{written_parts}
use Rattle.explain_steps.proofs.SteppedThrough.{stepped_clock_run, unfolds_some}
use Rattle.explain_steps.proofs.clock_stepping.clock_steps_through.Goals as goal

pub new-requires-clause-unfolds : goal.new-requires-clause-unfolds
new-requires-clause-unfolds c = unfolds_some c.args.program.now.body c.args.plan.now c.requires.plan

pub returns : goal.returns
returns c = record {
  run = λ u is.
      let origins = c.in_ok-layout.layout.origins in
      let t : ClockTextValue = record {
        text = c.args.places.now;
        file = None;
        offsets = c.in_ok-layout.layout.offsets;
        begun = origins.begun;
        things = origins.things;
      } in
      stepped_clock_run c.args.places.now c.args.program.now.body u c.args.plan.now
      (record { of_text = t; statements = written_parts c.args.program.now.body; origins = all_op_origins u }) c.in_ok-run.run'
      (record {
        text_facts = known_text None c.args.places.now c.text.result.now c.args.program.now.body u c.in_ok-layout.layout.offsets origins t refl
            c.in_ok-layout.ensures.offsets c.text.ensures.text (c.in_ok-layout.ensures.origins u is);
        statements_are = refl;
        origins_are = refl;
      }) (c.in_ok-run.ensures.run u t is refl);
}
