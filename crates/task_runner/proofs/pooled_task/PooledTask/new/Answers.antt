use Rattle.std.proofs.Common.{◌<◌, ◌∙◌, length, sym, refl, subst}
use Rattle.board.specs.calls.Seats.{Known}
use Rattle.board.specs.calls.Views.{task_of}
use Rattle.board_runs.specs.calls.TaskSeats.{IsTaskSeat}
use Rattle.task_runner.proofs.PooledTasks.{small}
use Rattle.task_runner.proofs.pooled_task.PooledTask.new.Goals as goal

pub new-requires-clause-plan : goal.new-requires-clause-plan
new-requires-clause-plan g c = c.requires.seat.of_board.plan ∙ c.requires.plan

pub invariant_of-result : goal.invariant_of-result
invariant_of-result g c =
    record { seat = subst (IsTaskSeat g.N.BoardName.board) (sym c.new.ensures.seat) c.requires.seat; no_child = c.new.ensures.no_child }

pub returns-clause-within : goal.returns-clause-within
returns-clause-within g c =
    subst (λ (k : Known). task_of k.view < length g.N.BoardName.board.plan.parents) (sym c.new.ensures.seat)
    (small g.N.BoardName.board g.N.BoardName.board.plan c.args.seat refl c.requires.seat)
