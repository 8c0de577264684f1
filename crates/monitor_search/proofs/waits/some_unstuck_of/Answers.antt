use Rattle.std.proofs.Common.{◌≤◌, ◌<◌, length, sym, ◌∙◌, rules}
use Rattle.monitor_search.specs.inside.Waits.{is_unstuck}
use Rattle.monitor_search.proofs.NumberSearch.{none_numbered_of, some_numbered}
use Rattle.monitor_search.proofs.waits.some_unstuck_of.Goals as goal

pub returns-then-is_unstuck_number : goal.returns-then-is_unstuck_number
returns-then-is_unstuck_number c =
    let within : c.loop-k.k-index < length c.args.tasks.now = search rules in
    some_numbered (is_unstuck c.args.was.now) c.args.state.now.list c.args.tasks.now c.loop-k.k-index within (sym c.is_unstuck_number.ensures ∙ c.if-is_unstuck_number.true)

pub returns : goal.returns
returns c =
    let past : length c.args.tasks.now ≤ c.loop-k.k-index = search rules in
    none_numbered_of (is_unstuck c.args.was.now) c.args.state.now.list c.args.tasks.now c.loop-k.k-index past c.loop-k.invariant
