use Rattle.std.proofs.Common.{◌≡◌, ◌+◌, length}
use Rattle.armus_base.specs.calls.Pieces.{unfolded}
use Rattle.armus_base.proofs.code.Code.ops.Given as goal

-- those counted and those left are all ops
abbrev pub invariant-loop-ops : goal.invariant-loop-ops
invariant-loop-ops l = l.ops + length l.cursor ≡ length (unfolded l.self)

abbrev pub decreases-loop-ops : goal.decreases-loop-ops
decreases-loop-ops l = length l.cursor
