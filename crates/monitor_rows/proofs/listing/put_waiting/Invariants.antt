use Rattle.std.proofs.Common.{◌≡◌, ◌++◌, take}
use Rattle.std.specs.Prelude.{filter, flat_map}
use Rattle.monitor_laws.specs.Faults.{waits_now}
use Rattle.monitor_words.specs.Messages.{listed_line}
use Rattle.monitor_search.specs.Known.{has_stuck_number}
use Rattle.monitor_rows.proofs.listing.put_waiting.Given as goal

-- so far
abbrev pub invariant-loop-t : goal.invariant-loop-t
invariant-loop-t l =
    l.out.items ≡ l.fn.out.items ++ flat_map (listed_line l.state (has_stuck_number l.stuck)) (filter (λ t. waits_now t.condition) (take l.t-index l.state.list))
