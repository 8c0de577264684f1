use Rattle.std.proofs.Common.{◌≡◌, ◌++◌, ◌-◌, map}
use Rattle.monitor_words.specs.Words.{keep_alike}
use Rattle.monitor_words.specs.calls.Values.{group_shown}
use Rattle.monitor_search.specs.Known.{has_stuck_number}
use Rattle.monitor_rows.specs.inside.Lent.{lent_ones}
use Rattle.monitor_rows.specs.inside.Turns.{turn_groups, turns_leave}
use Rattle.monitor_rows.proofs.keepers.group_keepers.Given as goal

-- the groups so far, and those of the turns that are left, are all
abbrev pub invariant-loop-turn : goal.invariant-loop-turn
invariant-loop-turn l =
    (l.groups ++ map (group_shown (has_stuck_number l.stuck) l.p) (turn_groups (keep_alike (has_stuck_number l.stuck) l.p) (3 - l._turn) (lent_ones l.rest.items))
    ≡ map (group_shown (has_stuck_number l.stuck) l.p) (turn_groups (keep_alike (has_stuck_number l.stuck) l.p) 3 (lent_ones l.fn.keepers.items)))
    × (turns_leave (keep_alike (has_stuck_number l.stuck) l.p) (3 - l._turn) (lent_ones l.rest.items)
    ≡ turns_leave (keep_alike (has_stuck_number l.stuck) l.p) 3 (lent_ones l.fn.keepers.items))
