use Rattle.std.proofs.Common.{◌∙◌, ap}
use Rattle.std.specs.Prelude.{nat_lt}
use Rattle.std.specs.List.{list_any}
use Rattle.monitor_laws.specs.States.{Participant, is_live_wildcard}
use Rattle.monitor_state.proofs.WildcardCounts.{any_counted}
use Rattle.monitor_state.proofs.listing.Listing.has_wildcards.Goals as goal

pub returns : goal.returns
returns c = ap (nat_lt 0) c.self.invariant.counted ∙ any_counted c.self.inside.list.items ∙ ap (list_any (λ (u : Participant). is_live_wildcard u.condition)) c.self.view_is
