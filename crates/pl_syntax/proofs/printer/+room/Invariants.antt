use Rattle.std.proofs.Common.{◌≤◌, ◌+◌, ◌-◌, ◌*◌, drop}
use Rattle.pl_syntax.specs.declared.limits.TheConstants.{MAX_OPEN_BRACES}
use Rattle.pl_syntax.specs.Tree.{height}
use Rattle.pl_syntax.specs.calls.Bodies.{tree_of}
use Rattle.pl_syntax.proofs.printer.+room.Given as goal

abbrev pub decreases-body_room : goal.decreases-body_room
decreases-body_room l = 2 * ((MAX_OPEN_BRACES + 1) - l.depth) + 1

abbrev pub decreases-statement_room : goal.decreases-statement_room
decreases-statement_room l = 2 * ((MAX_OPEN_BRACES + 1) - l.depth)

abbrev pub invariant-body_room-loop-stmt : goal.invariant-body_room-loop-stmt
invariant-body_room-loop-stmt l = height (tree_of (drop l.stmt-index l.stmt-items)) + l.depth ≤ MAX_OPEN_BRACES
