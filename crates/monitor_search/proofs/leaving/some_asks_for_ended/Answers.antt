use Rattle.std.proofs.Common.{sym, ◌∙◌}
use Rattle.monitor_search.proofs.NoWildcards.{none_asks}
use Rattle.monitor_search.proofs.leaving.some_asks_for_ended.Goals as goal

pub returns-then-not-has_wildcards : goal.returns-then-not-has_wildcards
returns-then-not-has_wildcards c = none_asks c.args.state.now.list (sym c.has_wildcards.ensures ∙ c.if-not-has_wildcards.true)
