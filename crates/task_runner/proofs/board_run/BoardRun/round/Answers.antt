use Rattle.std.proofs.Common.{◌≡◌, ◌<◌, ℕ, sym, subst}
use Rattle.armus_base.specs.Plans.{Plan}
use Rattle.board_runs.specs.calls.TaskSeats.{left_to}
use Rattle.board_runs.specs.calls.Rounds.{HasRound, HaveEnded}
use Rattle.task_runner.specs.inside.BoardRuns.{bound_on}
use Rattle.task_runner.proofs.board_run.BoardRun.round.Goals as goal

pub returns-clause-round : goal.returns-clause-round
returns-clause-round g c =
    let board = c.args.board.now in
    let before = c.args.self.now.board_tasks in
    let now = c.round.new.self in
    let made = c.in_ok-made.ensures in
    let same : c.bound_on_loads.result ≡ bound_on board c.args.with_pass = c.bound_on_loads.ensures in
    record {
      on_board = record { of_plan = c.requires.on_board.of_plan; board_tasks = made.tasks };
      round = subst (λ (bound : ℕ). HasRound bound board before now c.in_ok-made.made) same made.round;
      further = λ l. subst (λ (q : Plan). left_to q now < left_to q before) (sym c.requires.on_board.of_plan) (made.further l);
      quiet = made.quiet;
      ends = λ not_so. record {
        before = before;
        were = c.requires.on_board.board_tasks;
        ends = subst (λ (bound : ℕ). HaveEnded bound before now) same (made.ends not_so);
      };
    }
