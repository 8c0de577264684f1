use Rattle.std.proofs.Common.{◌≡◌, ℕ, ◌++◌, List, ap, append_assoc, flat_map, map, ◌∙◌}
use Rattle.std.proofs.lemmas.Result.{on_ok_weaker}
use Rattle.armus_base.specs.declared.ids.TaskId.{TaskId}
use Rattle.explain_tasks.specs.declared.impeders.Impeder.{Impeder}
use Rattle.explain_tasks.specs.Sayings.{impeder_said}
use Rattle.explain_deadlock.specs.ImpederLines.{group_line, group_of, rest_line, rest_of}
use Rattle.explain_deadlock.proofs.Numbered.{lines_are}
use Rattle.explain_deadlock.proofs.impeder_lines.put_lines_by.Goals as goal

pub returns : goal.returns
returns c =
    let f = c.args.facts.now in
    let all = c.args.impeders.now in
    let firsts = c.in_ok-firsts.firsts.items in
    let say = impeder_said f in
    let groups : List Impeder → List ℕ = λ xs. flat_map (λ said. group_line f c.args.count said (group_of f all said)) (map say xs) in
    let rest : c.deref-3.result.now ≡ rest_of f all (map say firsts) =
    c.deref-3.ensures.value ∙ c.in_ok-rest.ensures ∙ ap (λ (xs : List Impeder). rest_of f all (map say xs)) c.deref-2.ensures.value in
    let before : c.put_groups.new.out.items ≡ c.args.out.now.items ++ groups firsts =
    c.in_ok-put_groups.ensures ∙ ap (λ (xs : List Impeder). c.args.out.now.items ++ groups xs) c.deref.ensures.value in
    on_ok_weaker c.put_rest.result
    (λ e. e ∙ ap (λ (xs : List TaskId). c.put_groups.new.out.items ++ rest_line f xs) rest ∙ ap (λ zs. zs ++ rest_line f (rest_of f all (map say firsts))) before
    ∙ append_assoc c.args.out.now.items (groups firsts) (rest_line f (rest_of f all (map say firsts)))
    ∙ ap (λ zs. c.args.out.now.items ++ zs) (lines_are f c.args.count c.args.next all firsts c.in_ok-firsts.ensures.told))
    c.put_rest.ensures
