use Rattle.std.proofs.Common.{◌≡◌, ◌≤◌, ◌+◌, ◌-◌, ◌*◌, length, sum_by}
use Rattle.pl_syntax.specs.declared.limits.TheConstants.{MAX_OPEN_BRACES}
use Rattle.pl_syntax.specs.inside.Reading.{ends_list}
use Rattle.pl_syntax.specs.inside.Statements.{statement_at}
use Rattle.pl_syntax.proofs.Turns.{Turn}
use Rattle.pl_syntax.proofs.nested.+read.Given as goal

abbrev pub decreases-statement_at : goal.decreases-statement_at
decreases-statement_at g l = 2 * (MAX_OPEN_BRACES - l.depth)

abbrev pub decreases-statements_at : goal.decreases-statements_at
decreases-statements_at g l = 2 * (MAX_OPEN_BRACES - l.depth) + 1

abbrev pub invariant-statements_at-loop-items : goal.invariant-statements_at-loop-items
invariant-statements_at-loop-items g l =
    Turn _ ends_list (statement_at g.S.Statement.spoken) l.items.items l.scan l.depth l.rest l.text × (l.statements ≡ sum_by g.S.Statement.count l.items.items)
    × (l.statements + length l.rest ≤ length l.text)

abbrev pub decreases-statements_at-loop-items : goal.decreases-statements_at-loop-items
decreases-statements_at-loop-items g l = length l.rest
