use Rattle.std.proofs.Common.{◌∙◌, ◌++◌, ℕ, List, ap}
use Rattle.armus_base.specs.declared.ids.TaskId.{TaskId}
use Rattle.explain_clock.specs.ClockExplanations.{explained_activities, paragraph_said, paragraph_of, paragraph_saying}
use Rattle.explain_clock.specs.inside.ToldTogether.{said_bytes}
use Rattle.explain_clock.proofs.ToldTogether.{texts_next, those_are}
use Rattle.explain_clock.proofs.facts.ClockFacts.put_each.Goals as goal

pub loop-said-preserved : goal.loop-said-preserved
loop-said-preserved c =
    let f = c.args.self.now in
    let says : ℕ → List ℕ = paragraph_said f in
    let all = explained_activities f in
    texts_next (paragraph_saying f) c.args.sayings.now c.loop-said.said-index c.said-item.result c.args.out.now.items c.loop-said.out.items
    c.put_paragraph_of.new.out.items c.loop-said-test.true c.loop-said.invariant
    (c.in_ok-put_paragraph_of.ensures
    ∙ ap (λ (ts : List TaskId). c.loop-said.out.items ++ paragraph_of f ts)
    (c.deref.ensures.value ∙ c.in_ok-activities.ensures ∙ those_are says c.as_slice.result.now all c.args.told.now c.requires.told)
    ∙ ap (λ said. c.loop-said.out.items ++ paragraph_saying f said) (c.as_slice.ensures.value ∙ ap said_bytes c.said-item.is))
