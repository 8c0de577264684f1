use Rattle.std.proofs.Common.{◌≤◌, ◌<◌, length, sym, ◌∙◌, rules}
use Rattle.monitor_search.specs.inside.Leaving.{runs_now}
use Rattle.monitor_search.proofs.NumberSearch.{none_numbered_of, some_numbered}
use Rattle.monitor_search.proofs.leaving.somebody_runs_of.Goals as goal

pub returns-then-runs_with_number : goal.returns-then-runs_with_number
returns-then-runs_with_number c =
    let within : c.loop-k.k-index < length c.args.tasks.now = search rules in
    some_numbered (λ u. runs_now u.condition) c.args.state.now.list c.args.tasks.now c.loop-k.k-index within (sym c.runs_with_number.ensures ∙ c.if-runs_with_number.true)

pub returns : goal.returns
returns c =
    let past : length c.args.tasks.now ≤ c.loop-k.k-index = search rules in
    none_numbered_of (λ u. runs_now u.condition) c.args.state.now.list c.args.tasks.now c.loop-k.k-index past c.loop-k.invariant
