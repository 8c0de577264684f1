use denote.Exit.{no}
use denote.Param.{param}
use denote.Param.Send.{arg_send, param_send}
use Rattle.std.proofs.Common.{ℕ, ◌<◌, ◌+◌, ◌-◌, ◌*◌, ◌/◌, map, rules, arith}
use Rattle.board_runs.specs.calls.Turns.{TakesTurns}
use Rattle.board_runs.proofs.Crossing.{turns_send}
use Rattle.board_runs.proofs.Rounding.{halves_on, halves_stopped, ready_both}
use Rattle.board_runs.proofs.rounds.+taking.Goals as goal
use Rattle.board_runs.proofs.rounds.+taking.Goals.{take_turns_in_halves-After-branch-first}

pub take_turns_in_halves-join_mut-first-requires-send-F : goal.take_turns_in_halves-join_mut-first-requires-send-F
take_turns_in_halves-join_mut-first-requires-send-F g t c κs within =
    param_send 1 _ (arg_send _ no _ (turns_send _ _ _ _ _ _ (param 1 g.row.R) (param 2 g.row.C) (param 0 g.row.T) tt (search rules) (search rules) (search rules)))

pub take_turns_in_halves-join_mut-first-requires-after_bounds : goal.take_turns_in_halves-join_mut-first-requires-after_bounds
take_turns_in_halves-join_mut-first-requires-after_bounds g t c κs within =
    let w = g.T.TakeTurn.working in
    let a = c.split_at_mut-front.result.0.now in
    let b = c.split_at_mut-front.result.1.now in
    let ready = ready_both c.args.setting.now.board.now w c.args.tasks.now a b c.split_at_mut-front.ensures.value c.requires.ready in
    let front = ready.0 in
    let back = ready.1 in
    let several = c.requires.several in
    let front_less : 3 * (c.args.workers / 2) + 2 < 3 * c.args.workers = omega arith in
    let back_less : 3 * (c.args.workers - c.args.workers / 2) + 2 < 3 * c.args.workers = omega arith in
    search rules

-- what both halves did
front : (g : _) (t : ℕ) (c : take_turns_in_halves-After-branch-first g t) →
    TakesTurns c.args.setting.now.bound c.args.setting.now.board.now (map g.T.TakeTurn.working c.split_at_mut-front.result.0.now)
    (map g.T.TakeTurn.working c.front-1.given.0) c.join_mut-first.result.0
front g t c = search rules

back : (g : _) (t : ℕ) (c : take_turns_in_halves-After-branch-first g t) →
    TakesTurns c.args.setting.now.bound c.args.setting.now.board.now (map g.T.TakeTurn.working c.split_at_mut-front.result.1.now)
    (map g.T.TakeTurn.working c.back-1.given.0) c.join_mut-first.result.1
back g t c = search rules

pub take_turns_in_halves-returns-in_err-first : goal.take_turns_in_halves-returns-in_err-first
take_turns_in_halves-returns-in_err-first g t c =
    let at = (goal.at.take_turns_in_halves-returns-in_err-first g t c).After-branch-first in
    record {
      turns = halves_stopped g.T.TakeTurn.working _ _ c.front-1.given.0 c.back-1.given.0 c.split_at_mut-front.ensures.value (front g t at) (back g t at)
          c.from_residual.result (search rules);
    }

pub take_turns_in_halves-returns-in_err-second : goal.take_turns_in_halves-returns-in_err-second
take_turns_in_halves-returns-in_err-second g t c =
    let at = (goal.at.take_turns_in_halves-returns-in_err-second g t c).After-branch-first in
    record {
      turns = halves_stopped g.T.TakeTurn.working _ _ c.front-1.given.0 c.back-1.given.0 c.split_at_mut-front.ensures.value (front g t at) (back g t at)
          c.from_residual-in_err-second.result (search rules);
    }

pub take_turns_in_halves-returns : goal.take_turns_in_halves-returns
take_turns_in_halves-returns g t c =
    let at = (goal.at.take_turns_in_halves-returns g t c).After-branch-first in
    record {
      turns = halves_on g.T.TakeTurn.working _ _ c.front-1.given.0 c.back-1.given.0 c.split_at_mut-front.ensures.value (front g t at) (back g t at)
          c.saturating_add.result c.in_ok-first.was c.in_ok-second.was c.saturating_add.ensures;
    }
