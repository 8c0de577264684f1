-- What the values of this crate stand for.
use Rattle.std.specs.Prelude.{ℕ, List, Option, Some, None, ◌==◌}
use Rattle.std.specs.Global.{Vec}
use Rattle.std.specs.List.{slice_split}
use Rattle.monitor_laws.specs.States.{Condition as Stands, Running as Runs, Waiting as Waits, Ended as HasEnded, AnyTask as ForAnyTask, OneOf as ForOneOf}
use Rattle.monitor_state.specs.declared.condition.ListedCondition.{ListedCondition}
use Rattle.monitor_state.specs.declared.condition.ListedCondition.TheVariants.{Running, Waiting, Ended, AnyTask, OneOf}

-- a condition; the names of those who may play a wildcard stand one behind the other, a space between
abbrev pub condition_value : ListedCondition → Stands
condition_value Running = Runs
condition_value (Waiting p n) = Waits p.items n
condition_value Ended = HasEnded
condition_value AnyTask = ForAnyTask
condition_value (OneOf names tasks) = ForOneOf (slice_split (λ b. b == 32) names.items) tasks.items

-- a place, where there is one
abbrev pub kept_bytes : Option (Vec ℕ) → Option (List ℕ)
kept_bytes None = None
kept_bytes (Some bytes) = Some bytes.items
