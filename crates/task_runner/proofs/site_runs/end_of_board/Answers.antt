use Rattle.std.proofs.Common.{◌∙◌, List, true, false, ap, length, sym, subst}
use Rattle.std.specs.Prelude.{slice_get}
use Rattle.armus_base.specs.calls.Boards.{IsLawful}
use Rattle.armus_base.specs.Runs.{IsReachable}
use Rattle.armus_base.proofs.BoardRuns.{lawful_is_reachable}
use Rattle.pl_core.specs.declared.place.Place.{Place as KeptPlace}
use Rattle.pl_core.specs.calls.Worlds.{places_at}
use Rattle.board.specs.declared.mode.Mode.{Mode}
use Rattle.board.specs.calls.Views.{avoids}
use Rattle.task_runner.proofs.SitesWatched.{whole_end}
use Rattle.task_runner.proofs.UnrefusedPlaces.{unrefused_places}
use Rattle.task_runner.proofs.site_runs.end_of_board.Goals.{In_ok-places}
use Rattle.task_runner.proofs.site_runs.end_of_board.Goals as goal

-- the places are those of a board that detects deadlock
detected :
    (g : _) (c : In_ok-places g) → IsLawful false c.args.run.plan.now (places_at c.args.run.plan.now c.in_ok-places.places) c.in_ok-places.ensures.lawful.0
detected g c =
    let lawful = c.in_ok-places.ensures.lawful in
    subst (λ (m : Mode). IsLawful (avoids m) c.args.run.plan.now (places_at c.args.run.plan.now c.in_ok-places.places) lawful.0) c.requires.detects lawful.1

pub leave-requires-clause-ends : goal.leave-requires-clause-ends
leave-requires-clause-ends g c = (true, c.requires.ends)

pub world_end_from-requires-clause-one_each : goal.world_end_from-requires-clause-one_each
world_end_from-requires-clause-one_each g c κs within = ap length c.as_slice.ensures.items ∙ c.in_ok-places.ensures.one_each

pub world_end_from-requires-clause-reachable : goal.world_end_from-requires-clause-reachable
world_end_from-requires-clause-reachable g c κs within =
    let plan = c.args.run.plan.now in
    let places : List KeptPlace = c.in_ok-places.places in
    let lawful = detected g (goal.at.world_end_from-requires-clause-reachable g c).In_ok-places in
    subst (λ (xs : List KeptPlace). IsReachable plan (places_at plan xs)) (sym c.as_slice.ensures.items)
    (lawful_is_reachable false plan (places_at plan places) c.in_ok-places.ensures.lawful.0 lawful)

pub world_end_from-requires-clause-plain : goal.world_end_from-requires-clause-plain
world_end_from-requires-clause-plain g c κs within = λ t place is.
    let plan = c.args.run.plan.now in
    let places : List KeptPlace = c.in_ok-places.places in
    let lawful = detected g (goal.at.world_end_from-requires-clause-plain g c).In_ok-places in
    unrefused_places plan places c.in_ok-places.ensures.lawful.0 lawful t place (ap (λ (xs : List KeptPlace). slice_get xs t) (sym c.as_slice.ensures.items) ∙ is)

pub returns : goal.returns
returns g c =
    record {
      end = whole_end c.args.run.plan.now c.in_ok-ended.ended c.in_ok-statuses.statuses c.in_ok-ended.ensures.checked c.in_ok-ended.ensures.end
          c.in_ok-statuses.ensures.statuses;
    }
