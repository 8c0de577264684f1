use Rattle.std.proofs.Common.{◌+◌, ◌*◌}
use Rattle.clock_syntax.specs.Trees.{clock_count, done}
use Rattle.clock_syntax.specs.calls.Bodies.{clock_followed_by}
use Rattle.explain_steps.specs.calls.Known.{kept_parts}
use Rattle.explain_steps.proofs.NotingParts.{NotingParts}
use Rattle.explain_steps.proofs.clock_statements.+note.Given as goal

abbrev pub decreases-note_body : goal.decreases-note_body
decreases-note_body l = 2 * clock_count l.body.now + 1

abbrev pub decreases-note_statement : goal.decreases-note_statement
decreases-note_statement l = 2 * clock_count (clock_followed_by l.stmt.now done)

abbrev pub invariant-note_body-loop-stmt : goal.invariant-note_body-loop-stmt
invariant-note_body-loop-stmt l = NotingParts l.stmt-items l.stmt-index l.body (kept_parts l.rows.items) (kept_parts l.fn.rows.items)
