use Rattle.std.proofs.Common.{arith}
use Rattle.explain_steps.proofs.NotingParts.{all_noted, begins, goes, small}
use Rattle.explain_steps.proofs.clock_statements.+note.Goals as goal

pub note_body-loop-stmt-init : goal.note_body-loop-stmt-init
note_body-loop-stmt-init t c = begins _ _ _ c.as_slice-stmt-items.ensures

pub note_body-note_statement-requires : goal.note_body-note_statement-requires
note_body-note_statement-requires t c =
    let d = small _ _ _ _ _ c.loop-stmt.invariant c.stmt-item.result c.loop-stmt-test.true c.stmt-item.is in
    omega (arith, d)

pub note_body-loop-stmt-preserved : goal.note_body-loop-stmt-preserved
note_body-loop-stmt-preserved t c =
    goes _ _ _ _ _ c.loop-stmt.invariant c.stmt-item.result c.loop-stmt-test.true c.stmt-item.is _ c.in_ok-note_statement.ensures

pub note_body-returns : goal.note_body-returns
note_body-returns t c = all_noted _ _ _ _ _ c.loop-stmt.invariant c.loop-stmt-test.false
