use Rattle.std.proofs.Common.{◌+◌, ◌-◌, ◌*◌}
use Rattle.pl_syntax.specs.declared.limits.TheConstants.{MAX_OPEN_BRACES}
use Rattle.pl_syntax.proofs.Lines.{Printing}
use Rattle.pl_syntax.proofs.printer.+print.Given as goal

abbrev pub decreases-put_body : goal.decreases-put_body
decreases-put_body l = 2 * ((MAX_OPEN_BRACES + 1) - l.depth) + 1

abbrev pub decreases-put_statement : goal.decreases-put_statement
decreases-put_statement l = 2 * ((MAX_OPEN_BRACES + 1) - l.depth)

abbrev pub invariant-put_body-loop-stmt : goal.invariant-put_body-loop-stmt
invariant-put_body-loop-stmt l = Printing l.depth l.stmt-items l.stmt-index l.body l.out.items l.fn.out.items
