use Rattle.std.proofs.Common.{◌∙◌}
use Rattle.monitor_search.specs.inside.Waits.{is_unstuck}
use Rattle.monitor_search.proofs.NumberSearch.{none_passes_numbered, one_passes_numbered}
use Rattle.monitor_search.proofs.waits.is_unstuck_number.Goals as goal

pub returns-in-None : goal.returns-in-None
returns-in-None c = none_passes_numbered (is_unstuck c.args.was.now) c.args.state.now.list c.args.k c.in-None.ensures.none

pub returns-in-Some : goal.returns-in-Some
returns-in-Some c =
    c.is_unstuck.ensures ∙ one_passes_numbered (is_unstuck c.args.was.now) c.args.state.now.list c.args.k c.in-Some.u.now c.in-Some.ensures.listed c.in-Some.ensures.number c.in-Some.ensures.one
