use Rattle.std.proofs.Common.{◌≡◌, take}
use Rattle.std.specs.Prelude.{filter}
use Rattle.monitor_words.specs.Stops.{keeps_waiting}
use Rattle.monitor_rows.specs.inside.Lent.{lent_ones}
use Rattle.monitor_rows.proofs.keepers.keepers_of.Given as goal

-- so far
abbrev pub invariant-loop-u : goal.invariant-loop-u
invariant-loop-u l = lent_ones l.keepers.items ≡ filter (λ u. keeps_waiting u l.t) (take l.u-index l.list)
