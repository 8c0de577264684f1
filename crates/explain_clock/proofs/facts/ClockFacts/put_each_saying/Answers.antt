use Rattle.std.proofs.Common.{◌∙◌, ◌++◌, ℕ, List, ap}
use Rattle.armus_base.specs.declared.ids.TaskId.{TaskId}
use Rattle.explain_clock.specs.ActivityLists.{those_said}
use Rattle.explain_clock.specs.ClockKeepers.{keeper_said, keepers, keepers_line}
use Rattle.explain_clock.specs.inside.ToldTogether.{said_bytes}
use Rattle.explain_clock.proofs.ToldTogether.{texts_next, those_are}
use Rattle.explain_clock.proofs.facts.ClockFacts.put_each_saying.Goals as goal

pub loop-said-preserved : goal.loop-said-preserved
loop-said-preserved c =
    let f = c.args.self.now in
    let e = c.args.event in
    let says : ℕ → List ℕ = keeper_said f e in
    let text : List ℕ → List ℕ = λ said. keepers_line f e (those_said says (keepers f e) said) in
    texts_next text c.args.sayings.now c.loop-said.said-index c.said-item.result c.args.out.now.items c.loop-said.out.items c.put_keepers.new.out.items
    c.loop-said-test.true c.loop-said.invariant
    (c.in_ok-put_keepers.ensures
    ∙ ap (λ (ts : List TaskId). c.loop-said.out.items ++ keepers_line f e ts)
    (c.deref.ensures.value ∙ c.in_ok-activities.ensures ∙ those_are says c.as_slice.result.now (keepers f e) c.args.told.now c.requires.told)
    ∙ ap (λ said. c.loop-said.out.items ++ text said) (c.as_slice.ensures.value ∙ ap said_bytes c.said-item.is))
