use Rattle.std.proofs.Common.{◌∙◌}
use Rattle.board.proofs.Holding.{busy_next}
use Rattle.tests_board.proofs.endings.takes_turns.Goals as goal

pub try_take-requires-2-clause-next : goal.try_take-requires-2-clause-next
try_take-requires-2-clause-next c =
    let e = c.requires.child.0 in
    (e.0, busy_next c.args.child.now c.try_lock.new.self c.in-Err.busy.holder.0 c.id.result.0 c.id.ensures.task c.in-Err.ensures.busy ∙ e.1)
