use Rattle.std.proofs.Common.{◌≡◌, ◌<◌, ◌++◌, [], List, ap, length, map, subst, sym, take, ◌∙◌}
use Rattle.std.specs.Prelude.{filter}
use Rattle.std.proofs.lemmas.List.{map-append}
use Rattle.std.proofs.lemmas.List.Elements.{All-filter}
use Rattle.explain_tasks.specs.declared.impeders.Impeder.{Impeder}
use Rattle.explain_tasks.specs.Groups.{each_once}
use Rattle.explain_tasks.specs.Sayings.{Said, impeder_said, same_said}
use Rattle.explain_deadlock.specs.ImpederLines.{is_this_impeder}
use Rattle.explain_deadlock.specs.inside.Numbered.{AreWithin}
use Rattle.explain_deadlock.proofs.impeder_lines.first_impeders.Goals as goal

pub add_firsts-requires-clause-impeders : goal.add_firsts-requires-clause-impeders
add_firsts-requires-clause-impeders c =
    subst (AreWithin (length c.args.numbers.now)) (sym (c.deref.ensures.value ∙ c.in_ok-at_next.ensures))
    (All-filter (is_this_impeder c.args.next) (λ (i : Impeder). i.t.0 < length c.args.numbers.now) c.args.impeders.now c.requires.impeders)

pub returns-clause-told : goal.returns-clause-told
returns-clause-told c =
    let f = c.args.facts.now in
    let say : Impeder → Said = impeder_said f in
    let all = c.args.impeders.now in
    let at_next : c.deref.result.now ≡ filter (is_this_impeder c.args.next) all = c.deref.ensures.value ∙ c.in_ok-at_next.ensures in
    let one : map say c.add_firsts.new.firsts.items ≡ take 3 (each_once same_said (map say c.deref.result.now)) =
    c.in_ok-add_firsts.ensures.added [] (ap (map say) c.new-firsts.ensures.items) in
    c.in_ok-add_firsts-2.ensures.added (map say c.deref.result.now) one
    ∙ ap (λ xs. take 3 (each_once same_said xs)) (ap (λ (xs : List Impeder). map say xs ++ map say all) at_next ∙ sym (map-append say (filter (is_this_impeder c.args.next) all) all))
