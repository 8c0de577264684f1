use Rattle.std.proofs.Common.{Some}
use Rattle.std.proofs.lemmas.List.Elements.{All-pop}
use Rattle.task_runner.specs.inside.Pooled.{IsForked}
use Rattle.task_runner.proofs.PooledTasks.{child_task_seats}
use Rattle.task_runner.proofs.pooled_task.last_of.Goals as goal

pub new-requires-clause-first : goal.new-requires-clause-first
new-requires-clause-first g c =
    (All-pop (IsForked g.N.BoardName.board) c.args.seats.items c.pop.new.self.items (Some c.in-Some.seat) c.in-Some.ensures.items c.requires.forked).1.1.first

pub new-requires-clause-seat : goal.new-requires-clause-seat
new-requires-clause-seat g c =
    child_task_seats g.N.BoardName.board c.in-Some.seat
    (All-pop (IsForked g.N.BoardName.board) c.args.seats.items c.pop.new.self.items (Some c.in-Some.seat) c.in-Some.ensures.items c.requires.forked).1
