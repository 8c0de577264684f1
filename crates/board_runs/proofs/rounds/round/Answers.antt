use Rattle.std.proofs.Common.{◌-◌, ◌^◌, IfOk, [], map, rules}
use Rattle.board_runs.proofs.Rounding.{each_free, of_itself, ready_itself, rest_each, stopped}
use Rattle.board_runs.proofs.rounds.round.Goals as goal

pub returns-in_err-provide-clause-turns : goal.returns-in_err-provide-clause-turns
returns-in_err-provide-clause-turns g c =
    let bad : IfOk c.from_residual.result (λ n. ⊥) = search rules in
    stopped (2 ^ 64 - 1) c.args.board.now c.args.tasks.now c.args.tasks.now c.from_residual.result bad (map (λ w. []) c.args.tasks.now, rest_each c.args.board.now c.args.tasks.now c.requires.ready)

pub take_turns-requires-clause-ready : goal.take_turns-requires-clause-ready
take_turns-requires-clause-ready g c κs within = ready_itself c.args.board.now c.args.tasks.now c.requires.ready

pub returns-clause-turns : goal.returns-clause-turns
returns-clause-turns g c = of_itself (2 ^ 64 - 1) c.args.board.now c.args.tasks.now c.take_turns.new.tasks c.take_turns.result c.take_turns.ensures.turns

pub returns-clause-free : goal.returns-clause-free
returns-clause-free g c = each_free (of_itself (2 ^ 64 - 1) c.args.board.now c.args.tasks.now c.take_turns.new.tasks c.take_turns.result c.take_turns.ensures.turns).each c.requires.ready
