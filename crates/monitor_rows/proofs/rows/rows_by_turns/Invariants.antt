use Rattle.std.proofs.Common.{◌≡◌, ◌++◌, ◌-◌, map}
use Rattle.monitor_words.specs.Words.{wait_alike}
use Rattle.monitor_words.specs.calls.Values.{row_shown}
use Rattle.monitor_search.specs.Known.{has_stuck_number}
use Rattle.monitor_rows.specs.inside.Lent.{lent_ones}
use Rattle.monitor_rows.specs.inside.Turns.{turn_groups, turns_leave}
use Rattle.monitor_rows.proofs.rows.rows_by_turns.Given as goal

-- the rows so far, and those of the turns that are left, are all
abbrev pub invariant-loop-turn : goal.invariant-loop-turn
invariant-loop-turn l =
    (l.rows ++ map (row_shown l.state (has_stuck_number l.stuck)) (turn_groups wait_alike (l.turns - l._turn) (lent_ones l.rest.items))
    ≡ l.fn.rows ++ map (row_shown l.state (has_stuck_number l.stuck)) (turn_groups wait_alike l.turns (lent_ones l.fn.tasks.items)))
    × (turns_leave wait_alike (l.turns - l._turn) (lent_ones l.rest.items) ≡ turns_leave wait_alike l.turns (lent_ones l.fn.tasks.items))
