use Rattle.std.proofs.Common.{◌≡◌, ℕ, List, ◌++◌}
use Rattle.std.specs.Option.{option_copied}
use Rattle.trace_lines.specs.inside.Reading.{bytes_left, words_behind, spaced_words}
use Rattle.monitor_words.specs.calls.Values.{first_names}
use Rattle.monitor_rows.proofs.conditions.player_names.Given as goal

-- the names so far, and those that are left, are all
abbrev pub invariant-loop-rest : goal.invariant-loop-rest
invariant-loop-rest l =
    (done : List (List ℕ)) × (l.shown ≡ first_names done) × (done ++ words_behind (option_copied l.rest) ≡ spaced_words l.names)

abbrev pub decreases-loop-rest : goal.decreases-loop-rest
decreases-loop-rest l = bytes_left (option_copied l.rest)
