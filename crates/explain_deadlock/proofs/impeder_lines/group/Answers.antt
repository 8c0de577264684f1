use Rattle.std.proofs.Common.{◌∷◌, [], ◌++◌, get_or, ap, ◌∙◌}
use Rattle.std.specs.Prelude.{if◌then◌else◌, not}
use Rattle.explain_tasks.specs.declared.impeders.Impeder.{Impeder}
use Rattle.explain_tasks.specs.Sayings.{impeder_said, same_said}
use Rattle.explain_deadlock.proofs.GroupsAre.{group_more}
use Rattle.explain_deadlock.proofs.impeder_lines.group.Goals as goal

pub loop-impeder-preserved : goal.loop-impeder-preserved
loop-impeder-preserved c =
    let f = c.args.facts.now in
    let said = impeder_said f c.args.first in
    let i = c.loop-impeder.impeder-index in
    let d : Impeder = record { t = record { 0 = 0 }; p = record { 0 = 0 }; phase = 0 } in
    let x : Impeder = get_or c.args.impeders.now i d in
    c.in_ok-push_unless.ensures
    ∙ ap (λ b. c.loop-impeder.all.items ++ (if not (not b) then x.t ∷ [] else [])) c.in_ok-is_same.ensures
    ∙ ap (λ xs. xs ++ (if not (not (same_said said (impeder_said f x))) then x.t ∷ [] else [])) c.loop-impeder.invariant
    ∙ group_more f c.args.impeders.now said i d c.loop-impeder-test.true
