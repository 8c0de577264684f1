use Rattle.std.proofs.Common.{◌≡◌, ◌∙◌, ◌++◌, ℕ, List, [], ap, map, sym}
use Rattle.std.specs.Str.{bytes_eq}
use Rattle.std.proofs.lemmas.List.{map-append}
use Rattle.armus_base.specs.declared.ids.TaskId.{TaskId}
use Rattle.explain_tasks.specs.Groups.{each_once}
use Rattle.explain_clock.specs.ClockExplanations.{explained_activities, paragraph_said}
use Rattle.explain_clock.specs.inside.ToldTogether.{said_bytes, words_told}
use Rattle.explain_clock.proofs.ToldTogether.{words_are}
use Rattle.explain_clock.proofs.facts.ClockFacts.sayings.Goals as goal

pub returns : goal.returns
returns c =
    let f = c.args.self.now in
    let says : ℕ → List ℕ = paragraph_said f in
    let circle = c.args.circle.now in
    let all = explained_activities f in
    let one : map words_told c.deref.result.now ≡ map (λ (t : TaskId). says t.0) circle =
    ap (map words_told) c.deref.ensures.value ∙ words_are says circle c.in_ok-first.first.items c.in_ok-first.ensures in
    c.in_ok-add_sayings-2.ensures (map words_told c.deref.result.now) (c.in_ok-add_sayings.ensures [] (ap (map said_bytes) c.new-sayings.ensures.items))
    ∙ ap (λ xs. each_once bytes_eq (xs ++ map words_told c.args.told.now)) one
    ∙ ap (λ xs. each_once bytes_eq (map (λ (t : TaskId). says t.0) circle ++ xs)) (words_are says all c.args.told.now c.requires.told)
    ∙ ap (each_once bytes_eq) (sym (map-append (λ (t : TaskId). says t.0) circle all))
