use Rattle.std.proofs.Common.{◌∷◌, [], List, arith, ap, map, subst, sym, ◌∙◌}
use Rattle.std.specs.List.{list_any}
use Rattle.explain_tasks.specs.declared.impeders.Impeder.{Impeder}
use Rattle.explain_tasks.specs.Sayings.{impeder_said, same_said}
use Rattle.explain_deadlock.proofs.Numbered.{adds_none_full, adds_none_told, adds_one}
use Rattle.explain_deadlock.specs.inside.Numbered.{AddsFirst}
use Rattle.explain_deadlock.proofs.impeder_lines.add_first.Goals as goal

pub returns-then-len-ge-MOST_GROUPS-clause-added : goal.returns-then-len-ge-MOST_GROUPS-clause-added
returns-then-len-ge-MOST_GROUPS-clause-added c =
    let f = c.args.facts.now in
    adds_none_full f c.args.firsts.now.items c.args.impeder (omega (arith, c.if-len-ge-MOST_GROUPS.true, c.len.ensures))

pub returns-then-branch-clause-added : goal.returns-then-branch-clause-added
returns-then-branch-clause-added c =
    let f = c.args.facts.now in
    adds_none_told f c.args.firsts.now.items c.args.impeder
    (sym (ap (λ (xs : List Impeder). list_any (λ said. same_said said (impeder_said f c.args.impeder)) (map (impeder_said f) xs)) c.deref.ensures.value) ∙ sym c.in_ok-is_among.ensures ∙ c.if-branch.true)

pub returns-clause-added : goal.returns-clause-added
returns-clause-added c =
    let f = c.args.facts.now in
    subst (λ (xs : List Impeder). AddsFirst f (impeder_said f c.args.impeder ∷ []) c.args.firsts.now.items xs) (sym c.in_ok-push.ensures.items)
    (adds_one f c.args.firsts.now.items c.args.impeder (omega (arith, c.if-len-ge-MOST_GROUPS.false, c.len.ensures))
    (sym (ap (λ (xs : List Impeder). list_any (λ said. same_said said (impeder_said f c.args.impeder)) (map (impeder_said f) xs)) c.deref.ensures.value) ∙ sym c.in_ok-is_among.ensures ∙ c.if-branch.false))
