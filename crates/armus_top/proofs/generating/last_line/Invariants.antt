use Rattle.std.proofs.Common.{◌++◌, ◌∷◌, List, ℕ, length}
use Rattle.schedule.specs.Lines.{IsCut}
use Rattle.armus_top.proofs.generating.last_line.Given as goal

-- the lines up to this one stand before the rest, and a cut of the rest completes the cut
abbrev pub invariant-loop-line : goal.invariant-loop-line
invariant-loop-line l = (before : List (List ℕ)) × ((more : List (List ℕ)) → IsCut l.rest more → IsCut l.bytes (before ++ l.line ∷ more))

abbrev pub decreases-loop-line : goal.decreases-loop-line
decreases-loop-line l = length l.rest
