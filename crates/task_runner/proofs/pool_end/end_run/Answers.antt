use Rattle.std.proofs.Common.{◌≡◌, ◌∙◌, ◌<◌, ℕ, List, [], Some, false, length, sym, ap, subst}
use Rattle.std.specs.Prelude.{All, slice_get}
use Rattle.armus_base.specs.Plans.{Plan}
use Rattle.armus_base.specs.Runs.{IsReachable}
use Rattle.pl_core.specs.declared.place.Place.{Place as KeptPlace}
use Rattle.pl_core.specs.calls.Worlds.{places_at}
use Rattle.board.specs.calls.Seats.{Frame}
use Rattle.board_runs.specs.calls.Turns.{Working}
use Rattle.board_runs.specs.calls.TaskSeats.{ArePlacesOf, IsTaskSeat, own_number}
use Rattle.task_runner.specs.inside.Pooled.{AreClosedUnderForks}
use Rattle.board_runs.proofs.Noting.{noted_more}
use Rattle.task_runner.proofs.PoolEnds.{plain_places, reachable_places}
use Rattle.task_runner.proofs.PooledTasks.{pooled_none, pooled_of, pooled_seats, pooled_within}
use Rattle.task_runner.proofs.pool_end.end_run.Goals.{Then-whole}
use Rattle.task_runner.proofs.pool_end.end_run.Goals as goal

-- where the tasks stood when the board was closed
module _ (g : _) (c : Then-whole g) where
  abbrev f : Frame
  f = c.args.run.board

  abbrev plan : Plan
  plan = c.args.run.plan.now

  abbrev tasks : List Working
  tasks = c.args.tasks.items

  abbrev places : List KeptPlace
  places = c.note_places.new.places.items

  whole : AreClosedUnderForks plan tasks
  whole = subst (λ (ws : List Working). AreClosedUnderForks plan ws) c.as_slice-2.ensures.value (c.in_ok-whole.ensures.whole c.if-whole.true)

  seats : All (λ (w : Working). IsTaskSeat f w.seat) tasks
  seats = pooled_seats f tasks c.requires.tasks

  are : ArePlacesOf plan tasks places
  are =
      subst (λ (ws : List Working). ArePlacesOf plan ws places) c.as_slice.ensures.value
      (noted_more plan [] c.as_slice.result.now c.in_ok-places.places.items places c.in_ok-places.ensures.places c.note_places.ensures)

  reachable : IsReachable plan (places_at plan places)
  reachable =
      reachable_places f plan c.requires.board.0 c.requires.board.1 tasks seats whole places are c.args.run.view c.take_in_all.new.view c.pass.new.view
      c.requires.viewer c.take_in_all.ensures.taken c.take_in_all.ensures.made c.pass.ensures.collected.goes_on c.close.result.words c.close.ensures.words

  plain : (t : ℕ) (place : KeptPlace) → slice_get places t ≡ Some place → place.refused ≡ false
  plain =
      plain_places f plan c.requires.board.0 c.requires.board.1 tasks seats whole places are c.args.run.view c.take_in_all.new.view c.pass.new.view
      c.requires.viewer c.take_in_all.ensures.taken c.take_in_all.ensures.made c.pass.ensures.collected.goes_on c.close.result.words c.close.ensures.words

pub note_places-requires : goal.note_places-requires
note_places-requires g c =
    let count : length c.args.run.board.plan.parents ≡ length c.in_ok-places.places.items =
    ap (λ (q : Plan). length q.parents) c.requires.board.0 ∙ sym c.in_ok-places.ensures.places.one_each in
    subst (λ (ws : List Working). All (λ (w : Working). own_number w < length c.in_ok-places.places.items) ws) (sym c.as_slice.ensures.value)
    (pooled_within c.args.run.board c.args.tasks.items c.requires.tasks (length c.in_ok-places.places.items) count)

pub are_whole-requires : goal.are_whole-requires
are_whole-requires g c = record {
  within =
      subst (λ (ws : List Working). All (λ (w : Working). own_number w < length c.args.run.plan.now.parents) ws) (sym c.as_slice-2.ensures.value)
      (pooled_within c.args.run.board c.args.tasks.items c.requires.tasks (length c.args.run.plan.now.parents) (ap (λ (q : Plan). length q.parents) c.requires.board.0));
}

pub take_in_all-requires-clause-seats : goal.take_in_all-requires-clause-seats
take_in_all-requires-clause-seats g c = pooled_of c.args.run.board c.args.tasks.items c.requires.tasks

pub take_in_all-requires-clause-no_child : goal.take_in_all-requires-clause-no_child
take_in_all-requires-clause-no_child g c = pooled_none c.args.run.board c.args.tasks.items c.requires.tasks

pub world_end_from-requires-clause-one_each : goal.world_end_from-requires-clause-one_each
world_end_from-requires-clause-one_each g c κs within =
    ap length c.as_slice-then-whole.ensures.value ∙ c.note_places.ensures.count ∙ c.in_ok-places.ensures.places.one_each

pub world_end_from-requires-clause-reachable : goal.world_end_from-requires-clause-reachable
world_end_from-requires-clause-reachable g c κs within =
    subst (λ (xs : List KeptPlace). IsReachable c.args.run.plan.now (places_at c.args.run.plan.now xs)) (sym c.as_slice-then-whole.ensures.value)
    (reachable g (goal.at.world_end_from-requires-clause-reachable g c).Then-whole)

pub world_end_from-requires-clause-plain : goal.world_end_from-requires-clause-plain
world_end_from-requires-clause-plain g c κs within = λ t place is.
    plain g (goal.at.world_end_from-requires-clause-plain g c).Then-whole t place
    (ap (λ (xs : List KeptPlace). slice_get xs t) (sym c.as_slice-then-whole.ensures.value) ∙ is)
