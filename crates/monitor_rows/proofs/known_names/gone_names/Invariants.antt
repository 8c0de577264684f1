use Rattle.std.proofs.Common.{◌≡◌, map, take}
use Rattle.monitor_words.specs.calls.Values.{first_names}
use Rattle.monitor_rows.specs.KnownNames.{known_only_in}
use Rattle.monitor_rows.proofs.known_names.gone_names.Given as goal

-- so far
abbrev pub invariant-loop-task : goal.invariant-loop-task
invariant-loop-task l = l.names ≡ first_names (map (λ t. t.1) (known_only_in (take l.task-index l.was) l.now))
