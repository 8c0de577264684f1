use Rattle.std.proofs.Common.{[], sym, subst}
use Rattle.board_runs.specs.calls.TaskSeats.{ArePlacesOf}
use Rattle.board_runs.proofs.Noting.{none_noted}
use Rattle.board_runs.proofs.endings.first_places.Goals as goal

pub returns : goal.returns
returns c = record {
  places =
      subst (ArePlacesOf c.args.plan.now []) (sym (c.in_ok-places.ensures.items_if_clones_equal (λ y e. e)))
      (none_noted c.args.plan.now c.tasks.result c.tasks.ensures.counted);
}
