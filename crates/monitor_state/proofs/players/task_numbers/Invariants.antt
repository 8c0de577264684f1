use Rattle.std.specs.Option.{option_copied}
use Rattle.trace_lines.specs.inside.Reading.{bytes_left, words_behind, spaced_words}
use Rattle.monitor_state.specs.inside.Players.{AreNumbersSoFar}
use Rattle.monitor_state.proofs.players.task_numbers.Given as goal

-- those of the names so far
abbrev pub invariant-loop-rest : goal.invariant-loop-rest
invariant-loop-rest l = AreNumbersSoFar l.listing (spaced_words l.names) (words_behind (option_copied l.rest)) l.numbers.items

abbrev pub decreases-loop-rest : goal.decreases-loop-rest
decreases-loop-rest l = bytes_left (option_copied l.rest)
