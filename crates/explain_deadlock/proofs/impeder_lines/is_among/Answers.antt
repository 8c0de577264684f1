use Rattle.std.proofs.Common.{sym, ◌∙◌}
use Rattle.explain_tasks.specs.Sayings.{Said, impeder_said, same_said}
use Rattle.explain_tasks.specs.declared.impeders.Impeder.{Impeder}
use Rattle.explain_deadlock.proofs.GroupsAre.{any_at, none_more}
use Rattle.explain_deadlock.proofs.impeder_lines.is_among.Goals as goal

pub returns-then-branch : goal.returns-then-branch
returns-then-branch c =
    let f = c.args.facts.now in
    let d : Impeder = record { t = record { 0 = 0 }; p = record { 0 = 0 }; phase = 0 } in
    sym
    (any_at (λ (said : Said). same_said said (impeder_said f c.args.impeder)) (impeder_said f) c.args.firsts.now c.loop-first.first-index d c.loop-first-test.true
    (sym c.in_ok-is_same.ensures ∙ c.if-branch.true))

pub loop-first-preserved : goal.loop-first-preserved
loop-first-preserved c =
    let f = c.args.facts.now in
    let d : Impeder = record { t = record { 0 = 0 }; p = record { 0 = 0 }; phase = 0 } in
    none_more (λ (said : Said). same_said said (impeder_said f c.args.impeder)) (impeder_said f) c.args.firsts.now c.loop-first.first-index d c.loop-first-test.true
    c.loop-first.invariant (sym c.in_ok-is_same.ensures ∙ c.if-branch.false)
