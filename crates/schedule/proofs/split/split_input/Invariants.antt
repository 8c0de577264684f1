use Rattle.std.proofs.Common.{◌≡◌, ◌++◌, ◌≤◌, List, ℕ, length, take}
use Rattle.schedule.specs.Split.{IsSplit}
use Rattle.schedule.proofs.split.split_input.Given as goal

-- what stands before the rest is text, and a cut of the rest completes the cut
abbrev pub invariant-loop-rest : goal.invariant-loop-rest
invariant-loop-rest l =
    (l.input ≡ take l.at l.input ++ l.rest) × (l.at ≤ length l.input)
    × ((text schedule : List ℕ) → IsSplit l.rest text schedule → IsSplit l.input (take l.at l.input ++ text) schedule)

abbrev pub decreases-loop-rest : goal.decreases-loop-rest
decreases-loop-rest l = length l.rest
