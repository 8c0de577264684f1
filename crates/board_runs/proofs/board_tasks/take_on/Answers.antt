use Rattle.std.proofs.Common.{List, subst}
use Rattle.board_runs.specs.calls.Turns.{Working}
use Rattle.board_runs.specs.inside.Rounds.{IsChildIn}
use Rattle.board_runs.proofs.board_tasks.take_on.Goals as goal

pub new_tasks-requires : goal.new_tasks-requires
new_tasks-requires c =
    record { start = λ seat at. c.requires.start seat (subst (λ (ws : List Working). IsChildIn ws seat) c.as_mut_slice.ensures.value at) }
