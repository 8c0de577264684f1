use Rattle.std.proofs.Common.{◌∙◌, ◌++◌, ap, arith, length}
use Rattle.explain_clock.specs.ClockFacts.{op_move, moves_from}
use Rattle.explain_clock.proofs.Ahead.{ahead_all, ahead_next}
use Rattle.explain_clock.proofs.waits.moves_from.Goals as goal

pub overflow_add-at : goal.overflow_add-at
overflow_add-at c =
    let fewer = ap length c.in-Some.ensures.some in
    omega (arith, fewer, c.ops.invariant.numbers, c.requires.few)

pub ops-preserved : goal.ops-preserved
ops-preserved c =
    let fewer = ap length c.in-Some.ensures.some in
    record {
      numbers = omega (arith, fewer, c.ops.invariant.numbers);
      so_far = ahead_next c.args.origins.now c.ops.at c.in-Some.op c.ops.left c.next.new.self c.ops.moves.items c.push_move.new.moves.items
          (moves_from c.args.origins.now c.args.i c.args.ops) c.in-Some.ensures.some c.ops.invariant.so_far
          (c.in_ok-push_move.ensures ∙ ap (λ n. c.ops.moves.items ++ op_move n c.in-Some.op) c.statement_at.ensures);
    }

pub returns : goal.returns
returns c =
    ahead_all c.args.origins.now c.ops.at c.ops.left c.ops.moves.items (moves_from c.args.origins.now c.args.i c.args.ops) c.in_default.ensures.none.0 c.ops.invariant.so_far
