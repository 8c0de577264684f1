use Rattle.std.proofs.Common.{◌∙◌, sym, subst}
use Rattle.std.specs.Prelude.{All}
use Rattle.board.specs.calls.Seats.{Frame, IsOf}
use Rattle.board_runs.specs.calls.Turns.{MakesActions}
use Rattle.board_runs.specs.calls.TaskSeats.{IsTaskSeat}
use Rattle.task_runner.specs.inside.Pooled.{IsForked}
use Rattle.task_runner.proofs.PooledTasks.{acted, forked}
use Rattle.task_runner.proofs.pooled_task.PooledTask.act.Goals as goal

pub act-requires : goal.act-requires
act-requires g c = record { made = subst (IsOf c.self.inside.task.seat) (sym c.requires.board) c.self.invariant.seat.of_board; free = c.self.invariant.seat.free }

pub invariant_of-self : goal.invariant_of-self
invariant_of-self g c =
    let a = c.in_err-acted.ensures.acts in
    record {
      seat =
          acted g.N.BoardName.board a.0 c.self.inside.task c.act.new.self c.self.invariant
          (subst (λ (f : Frame). MakesActions f a.0 c.self.inside.task c.act.new.self) c.requires.board a.1);
      no_child = c.in_err-acted.ensures.nobody ∙ c.self.invariant.no_child;
    }

pub invariant_of-self-2 : goal.invariant_of-self-2
invariant_of-self-2 g c =
    let a = c.in_ok-acted.ensures.acts in
    record {
      seat =
          subst (IsTaskSeat g.N.BoardName.board) (sym c.take_children.ensures.seat)
          (acted g.N.BoardName.board a.0 c.self.inside.task c.act.new.self c.self.invariant
          (subst (λ (f : Frame). MakesActions f a.0 c.self.inside.task c.act.new.self) c.requires.board a.1));
      no_child = c.take_children.ensures.none;
    }

pub last_of-requires-clause-forked : goal.last_of-requires-clause-forked
last_of-requires-clause-forked g c =
    let a = c.in_ok-acted.ensures.acts in
    subst (All (IsForked g.N.BoardName.board)) (sym (c.into_vec-seats.ensures.items ∙ c.take_children.ensures.children))
    (forked g.N.BoardName.board a.0 c.self.inside.task c.act.new.self c.self.invariant
    (subst (λ (f : Frame). MakesActions f a.0 c.self.inside.task c.act.new.self) c.requires.board a.1))
