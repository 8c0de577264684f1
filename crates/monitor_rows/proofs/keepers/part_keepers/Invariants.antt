use Rattle.std.proofs.Common.{◌≡◌, take}
use Rattle.std.specs.Prelude.{filter, not}
use Rattle.monitor_words.specs.Words.{keep_alike}
use Rattle.monitor_words.specs.calls.Values.{names_shown}
use Rattle.monitor_search.specs.Known.{has_stuck_number}
use Rattle.monitor_rows.specs.inside.Lent.{lent_ones}
use Rattle.monitor_rows.proofs.keepers.part_keepers.Given as goal

-- so far
abbrev pub invariant-loop-v : goal.invariant-loop-v
invariant-loop-v l =
    (l.names ≡ names_shown (filter (keep_alike (has_stuck_number l.stuck) l.p l.first) (lent_ones (take l.v-index l.keepers))))
    × (lent_ones l.others.items ≡ filter (λ v. not (keep_alike (has_stuck_number l.stuck) l.p l.first v)) (lent_ones (take l.v-index l.keepers)))
