use Rattle.std.proofs.Common.{arith}
use Rattle.clock_source_map.proofs.NotedInTurn.{no_turn, noted_end, noted_fewer, noted_next, noted_start, noted_within, turn_noted}
use Rattle.clock_source_map.proofs.Noting.{all_notes, noted_async}
use Rattle.clock_source_map.proofs.walk.+walk.Goals as goal

pub walk_body-loop-stmt-init : goal.walk_body-loop-stmt-init
walk_body-loop-stmt-init t c = noted_start all_notes _ _ _ _ c.as_slice-stmt-items.ensures

pub walk_body-walk_statement-requires : goal.walk_body-walk_statement-requires
walk_body-walk_statement-requires t c =
    let within = noted_within all_notes _ _ _ _ _ _ _ c.stmt-item.result c.loop-stmt-test.true c.stmt-item.is c.loop-stmt.invariant in
    let few = noted_fewer all_notes _ _ _ _ _ _ _ c.stmt-item.result c.loop-stmt-test.true c.stmt-item.is c.loop-stmt.invariant in
    (omega (arith, few), omega (arith, within, c.requires))

pub walk_body-loop-stmt-preserved : goal.walk_body-loop-stmt-preserved
walk_body-loop-stmt-preserved t c =
    noted_next all_notes _ _ _ _ _ _ _ c.stmt-item.result c.loop-stmt-test.true c.stmt-item.is c.loop-stmt.invariant _ c.statements-at.ensures _
    c.in_ok-walk_statement.ensures

pub walk_body-returns : goal.walk_body-returns
walk_body-returns t c = noted_end all_notes _ _ _ _ _ _ _ c.loop-stmt-test.false c.loop-stmt.invariant

pub walk_turns-loop-init : goal.walk_turns-loop-init
walk_turns-loop-init t c = no_turn all_notes c.args.n c.args.body.now c.args.notes.now

pub walk_turns-loop-preserved : goal.walk_turns-loop-preserved
walk_turns-loop-preserved t c = turn_noted all_notes c.args.n c.args.body.now c.args.notes.now c.loop.counter c.loop.notes _ c.loop.invariant
    c.in_ok-walk_body.ensures

pub walk_statement-returns-in-Async : goal.walk_statement-returns-in-Async
walk_statement-returns-in-Async t c =
    noted_async c.start.result c.args.n c.in-Async.names c.in-Async.body c.args.stmt.now c.args.notes.now c.start.new.self c.in-Async.is c.start.ensures
