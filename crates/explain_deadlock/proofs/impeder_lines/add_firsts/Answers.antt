use Rattle.explain_tasks.specs.declared.impeders.Impeder.{Impeder}
use Rattle.explain_deadlock.proofs.Numbered.{adds_more}
use Rattle.explain_deadlock.proofs.impeder_lines.add_firsts.Goals as goal

pub loop-impeder-preserved : goal.loop-impeder-preserved
loop-impeder-preserved c =
    let d : Impeder = record { t = record { 0 = 0 }; p = record { 0 = 0 }; phase = 0 } in
    record {
      within = c.add_first.ensures.firsts;
      added =
          adds_more c.args.facts.now c.args.impeders.now c.loop-impeder.impeder-index d c.args.firsts.now.items c.loop-impeder.firsts.items c.add_first.new.firsts.items
          c.loop-impeder-test.true c.loop-impeder.invariant.added c.in_ok-add_first.ensures.added;
    }
