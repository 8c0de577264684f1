use Rattle.std.proofs.Common.{◌≡◌, take}
use Rattle.std.specs.Prelude.{filter}
use Rattle.monitor_words.specs.Messages.{is_kept_waiting}
use Rattle.monitor_rows.specs.inside.Lent.{lent_ones}
use Rattle.monitor_rows.proofs.rows.kept_waiting.Given as goal

-- so far
abbrev pub invariant-loop-t : goal.invariant-loop-t
invariant-loop-t l = lent_ones l.tasks.items ≡ filter (is_kept_waiting l.state) (take l.t-index l.state.list)
