use Rattle.std.proofs.Common.{rules, not}
use Rattle.std.specs.Prelude.{eqb}
use Rattle.std.specs.List.{starts_with}
use Rattle.std.proofs.lemmas.Map.Made.{filter_same_pairs}
use Rattle.monitor_state.proofs.NumbersByName.{numbers_without}
use Rattle.monitor_state.proofs.numbers.remove_numbers.Goals as goal

pub returns : goal.returns
returns c =
    numbers_without c.args.beginning.now c.args.numbers.now c.retain.new.self
    (filter_same_pairs _ (λ e. not (starts_with eqb e.0.items c.args.beginning.now)) _ (λ k v b w f t. search rules) _ _ c.retain.ensures.filtered)
