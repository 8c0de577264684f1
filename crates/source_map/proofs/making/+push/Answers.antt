use Rattle.std.proofs.Common.{arith}
use Rattle.source_map.proofs.Pushed.{pushed_end, pushed_next, pushed_start, pushed_within, turn_next, turns_end}
use Rattle.source_map.proofs.Statements.{at_fewer}
use Rattle.source_map.proofs.making.+push.Goals as goal

pub push_of_body-loop-stmt-init : goal.push_of_body-loop-stmt-init
push_of_body-loop-stmt-init t c = pushed_start _ _ _ _ _ c.as_slice-stmt-items.ensures

pub push_of_body-push_of_statement-requires : goal.push_of_body-push_of_statement-requires
push_of_body-push_of_statement-requires t c =
    let few = at_fewer _ _ _ _ _ c.stmt-item.result c.loop-stmt-test.true c.stmt-item.is c.loop-stmt.invariant.numbers in
    let within = pushed_within _ _ _ _ _ _ _ _ c.stmt-item.result c.loop-stmt-test.true c.stmt-item.is c.loop-stmt.invariant in
    (omega (arith, few), omega (arith, within, c.requires))

pub push_of_body-loop-stmt-preserved : goal.push_of_body-loop-stmt-preserved
push_of_body-loop-stmt-preserved t c =
    pushed_next _ _ _ _ _ _ _ _ c.stmt-item.result c.loop-stmt-test.true c.stmt-item.is c.loop-stmt.invariant c.statements_in-at.result
    c.statements_in-at.ensures _ c.in_ok-push_of_statement.ensures

pub push_of_body-returns : goal.push_of_body-returns
push_of_body-returns t c = pushed_end _ _ _ _ _ _ _ _ c.loop-stmt-test.false c.loop-stmt.invariant

pub push_of_turns-loop-preserved : goal.push_of_turns-loop-preserved
push_of_turns-loop-preserved t c =
    turn_next c.args.made c.args.body.now c.args.n c.args.k 0 c.args.out.now.items c.loop.counter c.loop.out.items _ c.loop.invariant c.in_ok-push_of_body.ensures

pub push_of_turns-returns : goal.push_of_turns-returns
push_of_turns-returns t c = λ at.
    let h = c.loop-test.false in
    turns_end c.args.made c.args.body.now c.args.n c.args.k at c.args.out.now.items c.loop.counter c.loop.out.items (omega (arith, h, c.loop.auto.counter-end)) c.loop.invariant
