use Rattle.std.proofs.Common.{◌∷◌, [], ◌++◌, get_or, ap, ◌∙◌, map}
use Rattle.std.specs.Prelude.{if◌then◌else◌, not}
use Rattle.std.specs.List.{list_any}
use Rattle.explain_tasks.specs.declared.impeders.Impeder.{Impeder}
use Rattle.explain_tasks.specs.Sayings.{impeder_said, same_said}
use Rattle.explain_deadlock.proofs.GroupsAre.{rest_more}
use Rattle.explain_deadlock.proofs.impeder_lines.rest.Goals as goal

pub loop-impeder-preserved : goal.loop-impeder-preserved
loop-impeder-preserved c =
    let f = c.args.facts.now in
    let told = map (impeder_said f) c.args.firsts.now in
    let i = c.loop-impeder.impeder-index in
    let d : Impeder = record { t = record { 0 = 0 }; p = record { 0 = 0 }; phase = 0 } in
    let x : Impeder = get_or c.args.impeders.now i d in
    c.in_ok-push_unless.ensures
    ∙ ap (λ b. c.loop-impeder.rest.items ++ (if not b then x.t ∷ [] else [])) c.in_ok-is_told.ensures
    ∙ ap (λ xs. xs ++ (if not (list_any (λ said. same_said said (impeder_said f x)) told) then x.t ∷ [] else [])) c.loop-impeder.invariant
    ∙ rest_more f c.args.impeders.now told i d c.loop-impeder-test.true
