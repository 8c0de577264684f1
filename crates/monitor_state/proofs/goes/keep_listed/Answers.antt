use Rattle.std.proofs.Common.{rules}
use Rattle.std.proofs.lemmas.Fn.{filter_same}
use Rattle.monitor_laws.specs.States.{stays_listed}
use Rattle.monitor_state.proofs.goes.keep_listed.Goals as goal

pub returns : goal.returns
returns c = filter_same _ stays_listed _ (λ u b f t. search rules) _ _ c.retain.ensures.filtered
