use Rattle.std.proofs.Common.{◌∙◌, ap, not}
use Rattle.monitor_search.specs.inside.Leaving.{is_freed, is_unfreed}
use Rattle.monitor_search.proofs.NumberSearch.{none_passes_numbered, one_passes_numbered}
use Rattle.monitor_search.proofs.leaving.is_unfreed_number.Goals as goal

pub returns-in-None : goal.returns-in-None
returns-in-None c = none_passes_numbered (is_unfreed c.args.state.now.list) c.args.state.now.list c.args.k c.in-None.ensures.none

pub returns-in-Some : goal.returns-in-Some
returns-in-Some c =
    let list = c.args.state.now.list in
    ap not (c.is_freed.ensures ∙ ap (is_freed list) c.condition.ensures)
    ∙ one_passes_numbered (is_unfreed list) list c.args.k c.in-Some.u.now c.in-Some.ensures.listed c.in-Some.ensures.number c.in-Some.ensures.one
