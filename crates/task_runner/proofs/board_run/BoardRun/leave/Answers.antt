use Rattle.std.proofs.Common.{List, sym, subst}
use Rattle.armus_base.specs.calls.Boards.{IsLawful}
use Rattle.armus_base.specs.Plans.{Plan}
use Rattle.pl_core.specs.declared.place.Place.{Place as KeptPlace}
use Rattle.pl_core.specs.calls.Worlds.{places_at}
use Rattle.board.specs.calls.Views.{avoids}
use Rattle.board_runs.specs.calls.Turns.{loads_between}
use Rattle.board_runs.specs.calls.TaskSeats.{ArePlacesOf, all_of}
use Rattle.task_runner.specs.inside.BoardRuns.{bound_on}
use Rattle.task_runner.proofs.BoardPlaces.{lawful_end}
use Rattle.task_runner.proofs.EndedTurns.{turns_ended}
use Rattle.task_runner.proofs.board_run.BoardRun.leave.Goals as goal

pub returns-clause-lawful : goal.returns-clause-lawful
returns-clause-lawful c =
    let f = c.args.board in
    let tasks = c.args.self.board_tasks in
    let with_pass = c.requires.ends.0 in
    let ended = c.requires.ends.1 in
    let view = c.take_in.new.view in
    let places : List KeptPlace = c.in_ok-places.places in
    let are = subst (λ (q : Plan). ArePlacesOf q (all_of tasks) places) (sym c.requires.on_board.of_plan) c.in_ok-places.ensures.places in
    let end =
    lawful_end f f.mode (all_of tasks) c.requires.on_board.board_tasks.all view (c.take_in.ensures.kept c.requires.kept) c.take_in.ensures.known
    c.take_in.ensures.made c.close.result.words c.close.ensures.words (bound_on f with_pass) (loads_between (all_of ended.before) (all_of tasks))
    (turns_ended f with_pass tasks ended) places are in
    (end.0, subst (λ (q : Plan). IsLawful (avoids f.mode) q (places_at q places) end.0) c.requires.on_board.of_plan end.1)
