use Rattle.std.proofs.Common.{◌≡◌, true, ◌&&◌, take}
use Rattle.std.specs.Prelude.{nat_le}
use Rattle.std.specs.List.{list_all}
use Rattle.trace_lines.proofs.words.are_word_bytes.Given as goal

abbrev pub invariant-loop-byte : goal.invariant-loop-byte
invariant-loop-byte l = list_all (λ b. nat_le 33 b && nat_le b 126) (take l.byte-index l.word) ≡ true
