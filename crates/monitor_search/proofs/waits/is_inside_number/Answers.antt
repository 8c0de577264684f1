use Rattle.std.proofs.Common.{◌∙◌, ap, not}
use Rattle.monitor_state.specs.Values.{condition_value}
use Rattle.monitor_search.specs.inside.Waits.{may_stand_inside, was_outside}
use Rattle.monitor_search.proofs.NumberSearch.{none_passes_numbered, one_passes_numbered}
use Rattle.monitor_search.proofs.waits.is_inside_number.Goals as goal

pub returns-in-None : goal.returns-in-None
returns-in-None c = none_passes_numbered (may_stand_inside c.args.state.now.list c.args.was.now c.args.k) c.args.state.now.list c.args.number c.in-None.ensures.none

pub returns-in-Some : goal.returns-in-Some
returns-in-Some c =
    let list = c.args.state.now.list in
    let known = c.args.was.now in
    let k = c.args.k in
    let v = c.in-Some.v.now in
    ap not (c.was_outside.ensures ∙ ap (λ x. was_outside list known k x (condition_value c.condition.result.now)) c.number.ensures ∙ ap (was_outside list known k v.number) c.condition.ensures)
    ∙ one_passes_numbered (may_stand_inside list known k) list c.args.number v c.in-Some.ensures.listed c.in-Some.ensures.number c.in-Some.ensures.one
