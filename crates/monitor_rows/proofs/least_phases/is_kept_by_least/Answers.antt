use Rattle.std.proofs.Common.{◌≡◌, ℕ, List, sym, ◌∙◌, ap}
use Rattle.std.specs.List.{list_any}
use Rattle.monitor_laws.specs.Faults.{waits_now}
use Rattle.monitor_laws.specs.States.{Condition, Waiting}
use Rattle.monitor_laws.specs.Stuck.{is_phase_below}
use Rattle.monitor_words.specs.Stops.{impedes_wait, waited_for}
use Rattle.monitor_state.specs.Values.{condition_value}
use Rattle.monitor_rows.specs.inside.LeastPhases.{is_noted_below}
use Rattle.monitor_rows.proofs.LeastPhases.{not_kept}
use Rattle.monitor_rows.proofs.least_phases.is_kept_by_least.Goals as goal

pub returns-in-Waiting : goal.returns-in-Waiting
returns-in-Waiting c =
    let list = c.args.state.now.list in
    let p = c.in-Waiting.p.items in
    let n = c.in-Waiting.n in
    let waits : c.args.t.now.condition ≡ Waiting p n = sym c.condition.ensures ∙ ap condition_value c.in-Waiting.is in
    c.is_below.ensures
    ∙ ap (λ o. is_phase_below o n) (c.copied.ensures ∙ c.get.ensures.value)
    ∙ ap (λ (q : List ℕ). is_noted_below c.args.least.now q n) c.as_slice.ensures.value
    ∙ c.requires.least.known c.args.t.now p n c.requires.listed waits
    ∙ ap (λ (x : Condition). list_any (λ u. impedes_wait u (waited_for x)) list) (sym waits)

pub returns-in-Running : goal.returns-in-Running
returns-in-Running c = not_kept c.args.state.now.list c.args.t.now.condition (ap waits_now (sym c.condition.ensures ∙ ap condition_value c.in-Running.is))

pub returns-in-Ended : goal.returns-in-Ended
returns-in-Ended c = not_kept c.args.state.now.list c.args.t.now.condition (ap waits_now (sym c.condition.ensures ∙ ap condition_value c.in-Ended.is))

pub returns-in-AnyTask : goal.returns-in-AnyTask
returns-in-AnyTask c = not_kept c.args.state.now.list c.args.t.now.condition (ap waits_now (sym c.condition.ensures ∙ ap condition_value c.in-AnyTask.is))

pub returns-in-OneOf : goal.returns-in-OneOf
returns-in-OneOf c = not_kept c.args.state.now.list c.args.t.now.condition (ap waits_now (sym c.condition.ensures ∙ ap condition_value c.in-OneOf.is))
