use Rattle.std.proofs.Common.{◌+◌, ◌*◌}
use Rattle.pl_syntax.specs.Tree.{count, done}
use Rattle.pl_syntax.specs.calls.Bodies.{followed_by}
use Rattle.source_map.specs.inside.Tables.{kept_comings}
use Rattle.source_map.proofs.NotingStatements.{Noting}
use Rattle.source_map.proofs.table.+note.Given as goal

abbrev pub decreases-note_body : goal.decreases-note_body
decreases-note_body l = 2 * count l.body.now + 1

abbrev pub decreases-note_statement : goal.decreases-note_statement
decreases-note_statement l = 2 * count (followed_by l.stmt.now done)

abbrev pub invariant-note_body-loop-stmt : goal.invariant-note_body-loop-stmt
invariant-note_body-loop-stmt l = Noting l.stmt-items l.stmt-index l.body (kept_comings l.rows.items) (kept_comings l.fn.rows.items)
