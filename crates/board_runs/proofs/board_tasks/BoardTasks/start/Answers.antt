use Rattle.std.proofs.Common.{◌≡◌, ◌∙◌, [], ◌∷◌, Some, List, sym, subst, rules}
use Rattle.armus_base.specs.calls.Seats.{seen_by_child}
use Rattle.board.specs.calls.Seats.{IsNewSeat, nothing_seen}
use Rattle.board.proofs.Walking.{new_first}
use Rattle.board_runs.specs.calls.Turns.{Working}
use Rattle.board_runs.specs.calls.TaskSeats.{AreTasksOf}
use Rattle.board_runs.proofs.Rejoining.{first_tasks}
use Rattle.board_runs.proofs.board_tasks.BoardTasks.start.Goals as goal

pub new-requires-clause-first : goal.new-requires-clause-first
new-requires-clause-first c = new_first c.args.board.now c.args.seat c.requires.new

pub new-requires-clause-plan : goal.new-requires-clause-plan
new-requires-clause-plan c = c.requires.new.of_board.plan ∙ c.requires.plan

pub returns : goal.returns
returns c =
    let items : c.push.new.self.items ≡ c.new.result ∷ [] = search rules in
    let none : c.new-2.result.items ≡ [] = search rules in
    record {
      tasks =
          subst (λ (ws : List Working). AreTasksOf c.args.board.now (record { live = ws; ended = c.new-2.result.items })) (sym items)
          (subst (λ (ws : List Working). AreTasksOf c.args.board.now (record { live = c.new.result ∷ []; ended = ws })) (sym none)
          (first_tasks c.args.board.now c.new.result (subst (IsNewSeat c.args.board.now (Some 0) (seen_by_child 0 nothing_seen)) (sym c.new.ensures.seat) c.requires.new) c.new.ensures.no_child));
    }
