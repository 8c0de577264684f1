use Rattle.std.proofs.Common.{◌≡◌, take}
use Rattle.std.specs.Prelude.{filter, not}
use Rattle.monitor_words.specs.Words.{wait_alike}
use Rattle.monitor_words.specs.calls.Values.{names_shown}
use Rattle.monitor_rows.specs.inside.Lent.{lent_ones}
use Rattle.monitor_rows.proofs.rows.part_tasks.Given as goal

-- so far
abbrev pub invariant-loop-u : goal.invariant-loop-u
invariant-loop-u l =
    (l.names ≡ names_shown (filter (wait_alike l.first) (lent_ones (take l.u-index l.tasks))))
    × (lent_ones l.others.items ≡ filter (λ u. not (wait_alike l.first u)) (lent_ones (take l.u-index l.tasks)))
