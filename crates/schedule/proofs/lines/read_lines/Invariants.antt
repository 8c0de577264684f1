use Rattle.std.proofs.Common.{List, ℕ, ◌++◌, length}
use Rattle.schedule.specs.Lines.{IsCut, AllSay}
use Rattle.schedule.proofs.lines.read_lines.Given as goal

-- the lines so far say what stands before the rest, and a cut of the rest completes the cut
abbrev pub invariant-loop-rest : goal.invariant-loop-rest
invariant-loop-rest l = (done : List (List ℕ)) × AllSay done l.lines.items × ((more : List (List ℕ)) → IsCut l.rest more → IsCut l.bytes (done ++ more))

abbrev pub decreases-loop-rest : goal.decreases-loop-rest
decreases-loop-rest l = length l.rest
