use Rattle.std.proofs.Common.{sym, subst, map}
use Rattle.board_runs.specs.calls.Turns.{Working}
use Rattle.board_runs.specs.calls.TaskSeats.{AreTasksOf, KnowsTasks, Tasks, all_of}
use Rattle.board_runs.proofs.Goings.{same_on}
use Rattle.board_runs.proofs.Noting.{knows, tasks_taken}
use Rattle.board_runs.proofs.Rejoining.{both_none, both_of}
use Rattle.board_runs.proofs.Settling.{kept_all}
use Rattle.board_runs.proofs.board_tasks.BoardTasks.take_in.Goals as goal

pub take_in_all-requires-clause-seats : goal.take_in_all-requires-clause-seats
take_in_all-requires-clause-seats c = (both_of c.args.board.now (record { live = c.self.inside.live.items; ended = c.self.inside.ended.items }) (subst (AreTasksOf c.args.board.now) (sym c.self.view_is) c.requires.tasks)).0

pub take_in_all-requires-clause-no_child : goal.take_in_all-requires-clause-no_child
take_in_all-requires-clause-no_child c = (both_none c.args.board.now (record { live = c.self.inside.live.items; ended = c.self.inside.ended.items }) (subst (AreTasksOf c.args.board.now) (sym c.self.view_is) c.requires.tasks)).0

pub take_in_all-requires-2-clause-seats : goal.take_in_all-requires-2-clause-seats
take_in_all-requires-2-clause-seats c = (both_of c.args.board.now (record { live = c.self.inside.live.items; ended = c.self.inside.ended.items }) (subst (AreTasksOf c.args.board.now) (sym c.self.view_is) c.requires.tasks)).1

pub take_in_all-requires-2-clause-no_child : goal.take_in_all-requires-2-clause-no_child
take_in_all-requires-2-clause-no_child c = (both_none c.args.board.now (record { live = c.self.inside.live.items; ended = c.self.inside.ended.items }) (subst (AreTasksOf c.args.board.now) (sym c.self.view_is) c.requires.tasks)).1

pub returns-clause-known : goal.returns-clause-known
returns-clause-known c =
    let now : Tasks = (record { live = c.self.inside.live.items; ended = c.self.inside.ended.items }) in
    let tasks = (subst (AreTasksOf c.args.board.now) (sym c.self.view_is) c.requires.tasks) in
    let taken = tasks_taken now.live now.ended c.args.view.now c.take_in_all.new.view c.take_in_all-2.new.view c.take_in_all.ensures.taken c.take_in_all-2.ensures.taken in
    subst (λ (w : Tasks). KnowsTasks c.args.board.now (all_of w) c.take_in_all-2.new.view) c.self.view_is
    (knows c.args.board.now (all_of now) c.args.view.now c.take_in_all-2.new.view tasks.all.board_tasks taken c.requires.unknown)

pub returns-clause-kept : goal.returns-clause-kept
returns-clause-kept c = λ kept.
    kept_all (map (λ (w : Working). w.seat) c.self.inside.ended.items) c.take_in_all.new.view c.take_in_all-2.new.view c.take_in_all-2.ensures.taken
    (kept_all (map (λ (w : Working). w.seat) c.self.inside.live.items) c.args.view.now c.take_in_all.new.view c.take_in_all.ensures.taken kept)

pub returns-clause-same : goal.returns-clause-same
returns-clause-same c = same_on c.args.view.now c.take_in_all.new.view c.take_in_all-2.new.view c.take_in_all.ensures.same c.take_in_all-2.ensures.same
