use Rattle.std.proofs.Common.{arith}
use Rattle.clock_source_map.proofs.NotedInTurn.{no_turn, noted_end, noted_fewer, noted_next, noted_start, noted_within, turn_noted}
use Rattle.clock_source_map.proofs.NotingOps.{all_ops, finish_noted}
use Rattle.clock_source_map.proofs.op_walk.+note.Goals as goal

pub note_body-loop-stmt-init : goal.note_body-loop-stmt-init
note_body-loop-stmt-init t c = noted_start all_ops _ _ _ _ c.as_slice-stmt-items.ensures

pub note_body-note_statement-requires : goal.note_body-note_statement-requires
note_body-note_statement-requires t c =
    let within = noted_within all_ops _ _ _ _ _ _ _ c.stmt-item.result c.loop-stmt-test.true c.stmt-item.is c.loop-stmt.invariant in
    let few = noted_fewer all_ops _ _ _ _ _ _ _ c.stmt-item.result c.loop-stmt-test.true c.stmt-item.is c.loop-stmt.invariant in
    (omega (arith, few), omega (arith, within, c.requires))

pub note_body-loop-stmt-preserved : goal.note_body-loop-stmt-preserved
note_body-loop-stmt-preserved t c =
    noted_next all_ops _ _ _ _ _ _ _ c.stmt-item.result c.loop-stmt-test.true c.stmt-item.is c.loop-stmt.invariant _ c.statements-at.ensures _
    c.in_ok-note_statement.ensures

pub note_body-returns : goal.note_body-returns
note_body-returns t c = noted_end all_ops _ _ _ _ _ _ _ c.loop-stmt-test.false c.loop-stmt.invariant

pub note_turns-loop-init : goal.note_turns-loop-init
note_turns-loop-init t c = no_turn all_ops c.args.n c.args.body.now c.args.notes.now

pub note_turns-loop-preserved : goal.note_turns-loop-preserved
note_turns-loop-preserved t c = turn_noted all_ops c.args.n c.args.body.now c.args.notes.now c.loop.counter c.loop.notes _ c.loop.invariant
    c.in_ok-note_body.ensures

pub note_statement-returns-in_ok-note_body-in-Finish : goal.note_statement-returns-in_ok-note_body-in-Finish
note_statement-returns-in_ok-note_body-in-Finish t c =
    finish_noted c.close.result c.args.n _ c.args.stmt.now c.args.notes.now c.note.new.self c.note_body.new.notes c.close.new.self c.in-Finish.is
    c.in_ok-note-in-Finish.ensures c.in_ok-note_body-in-Finish.ensures c.close.ensures
