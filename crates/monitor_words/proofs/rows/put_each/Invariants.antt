use Rattle.std.proofs.Common.{◌≡◌, ◌++◌, flat_map, take}
use Rattle.monitor_words.specs.inside.ValueWords.{shown_row_words}
use Rattle.monitor_words.proofs.rows.put_each.Given as goal

abbrev pub invariant-loop-row : goal.invariant-loop-row
invariant-loop-row l = l.out.items ≡ l.initial.out.items ++ flat_map (shown_row_words) (take l.row-index l.rows)
