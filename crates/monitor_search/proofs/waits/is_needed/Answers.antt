use Rattle.std.proofs.Common.{sym, ◌∙◌}
use Rattle.monitor_search.proofs.ByIndex.{none_needs}
use Rattle.monitor_search.proofs.waits.is_needed.Goals as goal

pub returns-then-not-has_wildcards : goal.returns-then-not-has_wildcards
returns-then-not-has_wildcards c =
    none_needs c.args.state.now.list c.args.was.now c.args.u.now (c.is_awaited.ensures c.if-not-is_awaited.true) (sym c.has_wildcards.ensures ∙ c.if-not-has_wildcards.true)
