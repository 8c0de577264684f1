use Rattle.std.proofs.Common.{◌≡◌, ◌++◌, take}
use Rattle.armus_base.specs.Pieces.{straight}
use Rattle.pl_plan.proofs.pieces.push_each.Given as goal

abbrev pub invariant-loop-op : goal.invariant-loop-op
invariant-loop-op l = l.pieces.items ≡ l.fn.pieces.items ++ straight (take l.op-index l.ops)
