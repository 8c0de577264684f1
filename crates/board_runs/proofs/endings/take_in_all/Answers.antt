use Rattle.std.proofs.Common.{◌∙◌, subst}
use Rattle.board.specs.calls.Seats.{Known, TakesIn}
use Rattle.board_runs.proofs.Goings.{same_on}
use Rattle.board_runs.proofs.Noting.{task_taken}
use Rattle.board_runs.proofs.endings.take_in_all.Goals as goal

pub loop-task-preserved : goal.loop-task-preserved
loop-task-preserved c =
    let i = c.loop-task.invariant in
    let t = c.take_in.ensures.taken in record {
      made = record { table = t.table ∙ i.made.table; plan = t.same.plan ∙ i.made.plan; mode = t.same.mode ∙ i.made.mode };
      same = same_on c.args.view.now c.loop-task.view c.take_in.new.self i.same t.same;
      taken =
          task_taken c.loop-task.yielded c.in-Some.task c.args.view.now c.loop-task.view c.take_in.new.self i.taken
          (subst (λ (k : Known). TakesIn k c.loop-task.view c.take_in.new.self) c.into_seat.ensures.seat t);
    }
