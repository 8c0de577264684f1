use Rattle.std.proofs.Common.{◌+◌, ◌*◌}
use Rattle.pl_syntax.specs.Tree.{count, done}
use Rattle.pl_syntax.specs.calls.Bodies.{followed_by}
use Rattle.pl_syntax.proofs.EndsByBraces.{NotingEnds}
use Rattle.pl_syntax.proofs.ends.+note.Given as goal

abbrev pub decreases-note_body : goal.decreases-note_body
decreases-note_body l = 3 * count l.body.now + 1

abbrev pub decreases-note_ended : goal.decreases-note_ended
decreases-note_ended l = 3 * count l.body.now + 2

abbrev pub decreases-note_statement : goal.decreases-note_statement
decreases-note_statement l = 3 * count (followed_by l.stmt.now done)

abbrev pub invariant-note_body-loop-stmt : goal.invariant-note_body-loop-stmt
invariant-note_body-loop-stmt l = NotingEnds l.stmt-items l.stmt-index l.body l.rest l.fn.braces l.ends.items l.fn.ends.items
