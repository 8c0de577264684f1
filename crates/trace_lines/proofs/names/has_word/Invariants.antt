use Rattle.std.proofs.Common.{◌≡◌}
use Rattle.std.specs.Prelude.{bytes_eq}
use Rattle.std.specs.List.{list_any}
use Rattle.std.specs.Option.{option_copied}
use Rattle.trace_lines.specs.inside.Reading.{bytes_left, words_behind, spaced_words}
use Rattle.trace_lines.proofs.names.has_word.Given as goal

-- what is left has the word where the whole has it
abbrev pub invariant-loop-rest : goal.invariant-loop-rest
invariant-loop-rest l = list_any (bytes_eq l.word) (words_behind (option_copied l.rest)) ≡ list_any (bytes_eq l.word) (spaced_words l.bytes)

abbrev pub decreases-loop-rest : goal.decreases-loop-rest
decreases-loop-rest l = bytes_left (option_copied l.rest)
