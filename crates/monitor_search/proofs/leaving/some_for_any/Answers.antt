use Rattle.std.proofs.Common.{sym, ◌∙◌}
use Rattle.monitor_search.proofs.NoWildcards.{none_for_any}
use Rattle.monitor_search.proofs.leaving.some_for_any.Goals as goal

pub returns-then-not-has_wildcards : goal.returns-then-not-has_wildcards
returns-then-not-has_wildcards c = none_for_any c.args.state.now.list (sym c.has_wildcards.ensures ∙ c.if-not-has_wildcards.true)
