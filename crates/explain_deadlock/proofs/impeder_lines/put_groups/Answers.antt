use Rattle.explain_deadlock.specs.ImpederLines.{group_line, group_of}
use Rattle.explain_tasks.specs.Sayings.{impeder_said}
use Rattle.explain_tasks.specs.declared.impeders.Impeder.{Impeder}
use Rattle.explain_deadlock.proofs.Numbered.{lines_more}
use Rattle.explain_deadlock.proofs.impeder_lines.put_groups.Goals as goal

pub loop-first-preserved : goal.loop-first-preserved
loop-first-preserved c =
    let f = c.args.facts.now in
    let d : Impeder = record { t = record { 0 = 0 }; p = record { 0 = 0 }; phase = 0 } in
    lines_more (impeder_said f) (λ said. group_line f c.args.count said (group_of f c.args.impeders.now said)) c.args.firsts.now c.loop-first.first-index d
    c.args.out.now.items c.loop-first.out.items c.put_group_of.new.out.items c.loop-first-test.true c.loop-first.invariant c.in_ok-put_group_of.ensures
