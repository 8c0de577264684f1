use Rattle.std.proofs.Common.{◌≡◌, ◌∙◌, ◌++◌, ℕ, List, [], ap, map, subst, sym, take}
use Rattle.std.specs.Str.{bytes_eq}
use Rattle.armus_base.specs.declared.ids.TaskId.{TaskId}
use Rattle.explain_tasks.specs.Groups.{each_once}
use Rattle.explain_clock.specs.ActivityLists.{things_said}
use Rattle.explain_clock.specs.ClockKeepers.{keeper_said, keepers, lines_of}
use Rattle.explain_clock.specs.declared.together.ActivityTold.{ActivityTold}
use Rattle.explain_clock.specs.inside.ToldTogether.{AreToldAs, said_bytes}
use Rattle.explain_clock.proofs.ToldTogether.{few_words, words_are}
use Rattle.explain_clock.proofs.facts.ClockFacts.keeper_lines.Goals as goal

pub returns : goal.returns
returns c =
    let f = c.args.self.now in
    let e = c.args.event in
    let says : ℕ → List ℕ = keeper_said f e in
    let activities = c.deref.ensures.value ∙ c.in_ok-activities.ensures in
    let told : AreToldAs says (keepers f e) c.deref-2.result.now =
    subst (λ (ts : List TaskId). AreToldAs says ts c.deref-2.result.now) activities
    (subst (λ (xs : List ActivityTold). AreToldAs says c.deref.result.now xs) (sym c.deref-2.ensures.value) c.in_ok-told.ensures) in
    let all : map said_bytes c.add_sayings.new.sayings.items ≡ things_said says (keepers f e) =
    c.in_ok-add_sayings.ensures [] (ap (map said_bytes) c.new-sayings.ensures.items) ∙ ap (each_once bytes_eq) (words_are says (keepers f e) c.deref-2.result.now told) in
    c.in_ok-put_lines.ensures
    ∙ ap (λ xs. xs ++ lines_of f e (map said_bytes c.deref-4.result.now)) c.new-out.ensures.items
    ∙ ap (λ vs. lines_of f e (map said_bytes vs)) (c.deref-4.ensures.value ∙ c.truncate.ensures.items)
    ∙ ap (lines_of f e) (few_words 3 c.add_sayings.new.sayings.items ∙ ap (take 3) all)
