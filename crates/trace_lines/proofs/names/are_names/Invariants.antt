use Rattle.std.proofs.Common.{◌≡◌}
use Rattle.std.specs.Option.{option_copied}
use Rattle.trace_lines.specs.inside.Reading.{are_names, bytes_left, words_behind, spaced_words}
use Rattle.trace_lines.proofs.names.are_names.Given as goal

-- what is left are names where the whole are
abbrev pub invariant-loop-rest : goal.invariant-loop-rest
invariant-loop-rest l = are_names (words_behind (option_copied l.rest)) ≡ are_names (spaced_words l.bytes)

abbrev pub decreases-loop-rest : goal.decreases-loop-rest
decreases-loop-rest l = bytes_left (option_copied l.rest)
