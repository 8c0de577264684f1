use Rattle.std.proofs.Common.{◌≡◌}
use Rattle.std.specs.Prelude.{◌||◌, bytes_eq, find}
use Rattle.std.specs.Option.{option_copied}
use Rattle.monitor_laws.specs.Faults.{is_wildcard_in}
use Rattle.trace_lines.specs.inside.Reading.{bytes_left, words_behind, spaced_words}
use Rattle.monitor_state.proofs.state.MonitorState.first_misnamed.Given as goal

-- the first of what is left is the first of the whole
abbrev pub invariant-loop-rest : goal.invariant-loop-rest
invariant-loop-rest l =
    find (λ t. bytes_eq l.w t || is_wildcard_in l.self t) (words_behind (option_copied l.rest))
    ≡ find (λ t. bytes_eq l.w t || is_wildcard_in l.self t) (spaced_words l.names)

abbrev pub decreases-loop-rest : goal.decreases-loop-rest
decreases-loop-rest l = bytes_left (option_copied l.rest)
