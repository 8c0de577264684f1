use Rattle.std.proofs.Common.{◌+◌, ◌≤◌, sym, subst, arith}
use Rattle.pl_syntax.specs.declared.limits.TheConstants.{MAX_OPEN_BRACES}
use Rattle.pl_syntax.specs.Tree.{Tree, height}
use Rattle.pl_syntax.proofs.Lines.{next_fits}
use Rattle.pl_syntax.proofs.printer.+room.Goals as goal

pub body_room-loop-stmt-init : goal.body_room-loop-stmt-init
body_room-loop-stmt-init t c = subst (λ (p : Tree). height p + c.args.depth ≤ MAX_OPEN_BRACES) (sym c.as_slice-stmt-items.ensures) c.requires

pub body_room-statement_room-requires : goal.body_room-statement_room-requires
body_room-statement_room-requires t c = let f = (next_fits _ _ _ _ c.loop-stmt-test.true c.stmt-item.is c.loop-stmt.invariant).0 in (omega arith, f)

pub body_room-loop-stmt-preserved : goal.body_room-loop-stmt-preserved
body_room-loop-stmt-preserved t c = (next_fits _ _ _ _ c.loop-stmt-test.true c.stmt-item.is c.loop-stmt.invariant).1
