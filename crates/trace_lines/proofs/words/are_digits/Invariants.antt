use Rattle.std.proofs.Common.{◌≡◌, true, take}
use Rattle.trace_lines.specs.inside.Reading.{are_digits}
use Rattle.trace_lines.proofs.words.are_digits.Given as goal

abbrev pub invariant-loop-byte : goal.invariant-loop-byte
invariant-loop-byte l = are_digits (take l.byte-index l.word) ≡ true
