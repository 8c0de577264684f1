use Rattle.std.proofs.Common.{◌<◌, arith, ap, length, subst, sym}
use Rattle.std.proofs.lemmas.Bool.{false≢true}
use Rattle.armus_base.specs.Plans.{Plan}
use Rattle.armus_base.specs.Runs.{Place}
use Rattle.board_runs.proofs.Halting.{left_first}
use Rattle.board_runs.proofs.task.Task.new.Goals as goal

pub cursor-cursor-requires : goal.cursor-cursor-requires
cursor-cursor-requires c =
    record { task = subst (λ (q : Plan). c.id.result.0 < length q.parents) c.requires.plan (c.id.ensures.seat.own c.id.result.0 c.id.ensures.task).0 }

pub invariant_of-result : goal.invariant_of-result
invariant_of-result c =
    record {
      come = record {
        made_is = ap (λ (x : Place). x.done) (sym c.requires.first);
        ops_are = λ _.
            left_first c.args.seat c.id.result.0 c.args.plan.now c.cursor-cursor.result c.id.ensures.task c.requires.plan c.cursor-cursor.ensures.code c.requires.first;
        gone = λ e. absurd (false≢true e);
      };
      begun = omega arith;
    }
