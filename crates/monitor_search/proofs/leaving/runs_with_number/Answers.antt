use Rattle.std.proofs.Common.{◌∙◌, ap}
use Rattle.monitor_search.specs.inside.Leaving.{runs_now}
use Rattle.monitor_search.proofs.NumberSearch.{none_passes_numbered, one_passes_numbered}
use Rattle.monitor_search.proofs.leaving.runs_with_number.Goals as goal

pub returns-in-None : goal.returns-in-None
returns-in-None c = none_passes_numbered (λ u. runs_now u.condition) c.args.state.now.list c.args.k c.in-None.ensures.none

pub returns-in-Some : goal.returns-in-Some
returns-in-Some c =
    c.runs_now.ensures ∙ ap runs_now c.condition.ensures
    ∙ one_passes_numbered (λ u. runs_now u.condition) c.args.state.now.list c.args.k c.in-Some.u.now c.in-Some.ensures.listed c.in-Some.ensures.number c.in-Some.ensures.one
