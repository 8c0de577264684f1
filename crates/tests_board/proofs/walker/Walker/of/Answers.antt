use Rattle.std.proofs.Common.{◌<◌, length, subst}
use Rattle.armus_base.specs.Plans.{Plan}
use Rattle.board.proofs.Walking.{left_at_first}
use Rattle.tests_board.proofs.walker.Walker.«of».Goals as goal

pub cursor-cursor-requires : goal.cursor-cursor-requires
cursor-cursor-requires c =
    record { task = subst (λ (q : Plan). c.id.result.0 < length q.parents) c.requires.plan (c.id.ensures.seat.own c.id.result.0 c.id.ensures.task).0 }

pub invariant_of-result : goal.invariant_of-result
invariant_of-result c =
    record {
      free = c.requires.free;
      left = λ undecided.
          left_at_first c.args.seat c.id.result.0 c.args.plan.now c.cursor-cursor.result c.id.ensures.task c.requires.plan c.cursor-cursor.ensures.code c.requires.first
          c.requires.free;
    }
