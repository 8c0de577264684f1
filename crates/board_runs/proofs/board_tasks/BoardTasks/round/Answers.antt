use Rattle.std.proofs.Common.{◌<◌, sym, subst}
use Rattle.board_runs.specs.calls.TaskSeats.{AreTasksOf, Tasks, left_to}
use Rattle.board_runs.specs.calls.Rounds.{HasRound, HaveEnded}
use Rattle.board_runs.proofs.Rejoining.{live_none, live_ready, round_quiet, whole_round}
use Rattle.board_runs.proofs.board_tasks.BoardTasks.round.Goals as goal

pub returns : goal.returns
returns g c =
    let bound = c.args.setting.now.bound in
    let board = c.args.setting.now.board.now in
    let told = c.in_ok-made.made in
    let before : Tasks = record { live = c.self.inside.live.items; ended = c.self.inside.ended.items } in
    let now : Tasks = record { live = c.retire.new.live.items; ended = c.retire.new.ended.items } in
    let live = c.go_round.new.tasks.items in
    let tasks = subst (AreTasksOf board) (sym c.self.view_is) c.requires.tasks in
    let made = c.in_ok-made.ensures.round in
    let r = whole_round bound board c.args.plan.now before now live told c.requires.plan tasks made c.in_ok-retire.ensures.same c.in_ok-retire.ensures.ended in
    record {
      round = subst (λ (w : Tasks). HasRound bound board w now told) c.self.view_is (record { live = live; round = made; all = c.in_ok-retire.ensures.same; act_on = c.in_ok-retire.ensures.live });
      tasks = r.0;
      further = λ l. subst (λ (w : Tasks). left_to c.args.plan.now now < left_to c.args.plan.now w) c.self.view_is (r.1 l);
      quiet = round_quiet bound board before.live before.ended live told tasks made;
      ends = λ not_so. subst (λ (w : Tasks). HaveEnded bound w now) c.self.view_is (r.2 not_so);
    }

pub go_round-requires-clause-ready : goal.go_round-requires-clause-ready
go_round-requires-clause-ready g c κs within = live_ready c.args.setting.now.board.now (record { live = c.self.inside.live.items; ended = c.self.inside.ended.items }) (subst (AreTasksOf c.args.setting.now.board.now) (sym c.self.view_is) c.requires.tasks)

pub go_round-requires-clause-no_child : goal.go_round-requires-clause-no_child
go_round-requires-clause-no_child g c κs within = live_none c.args.setting.now.board.now (record { live = c.self.inside.live.items; ended = c.self.inside.ended.items }) (subst (AreTasksOf c.args.setting.now.board.now) (sym c.self.view_is) c.requires.tasks)
