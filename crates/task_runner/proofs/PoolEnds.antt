-- Where the tasks of a run without rounds stand, if all that were forked are in hand.
use Rattle.std.proofs.Common.{◌≡◌, ℕ, false, List, Some, None, map, sym, ap, ◌∙◌, subst}
use Rattle.std.specs.Prelude.{All, slice_get}
use Rattle.armus_base.specs.Plans.{Plan}
use Rattle.armus_base.specs.Runs.{IsReachable}
use Rattle.armus_base.specs.calls.Seats.{SeenBy}
use Rattle.pl_core.specs.declared.place.Place.{Place as KeptPlace}
use Rattle.pl_core.specs.calls.Worlds.{places_at}
use Rattle.board.specs.declared.mode.Mode.{Mode}
use Rattle.board.specs.declared.mode.Mode.TheVariants.{Detect}
use Rattle.board.specs.calls.Closing.{AreLastOf}
use Rattle.board.specs.calls.Seats.{Frame, IsNewSeat, IsOf, Known, nothing_seen}
use Rattle.board.specs.calls.Views.{seen}
use Rattle.phase_scan.specs.calls.Looks.{LoadsAlone}
use Rattle.board_runs.specs.calls.Turns.{Working}
use Rattle.board_runs.specs.calls.TaskSeats.{ArePlacesOf, AreTaskSeats, IsTaskSeat, IsSeatIn, KnowsTasks}
use Rattle.board_runs.specs.calls.Endings.{TakesAll}
use Rattle.board_runs.proofs.Noting.{knows}
use Rattle.task_runner.specs.inside.Pooled.{AreClosedUnderForks}
use Rattle.task_runner.proofs.BoardEnds.{plain, reachable}
use Rattle.task_runner.proofs.PooledTasks.{whole_task_seats}

module _ (f : Frame) (plan : Plan) (same : f.plan ≡ plan) (detects : f.mode ≡ Detect) (tasks : List Working) (each : All (λ (w : Working). IsTaskSeat f w.seat) tasks)
    (whole : AreClosedUnderForks plan tasks) (places : List KeptPlace) (are : ArePlacesOf plan tasks places) (first taken now : Known) (new : IsNewSeat f None nothing_seen first)
    (takes : TakesAll (map (λ (w : Working). w.seat) tasks) first taken) (made : IsOf taken f) (goes : LoadsAlone taken now) (words : List ℕ)
    (last : AreLastOf f.plan f.mode (seen now.view) words) where
  board_tasks : AreTaskSeats f (IsSeatIn tasks)
  board_tasks = whole_task_seats f tasks each (subst (λ (q : Plan). AreClosedUnderForks q tasks) (sym same) whole)

  known : KnowsTasks f tasks taken
  known = knows f tasks first taken board_tasks takes (λ u. ap (λ (s : SeenBy). s.exact u) new.seen_is)

  of : IsOf now f
  of = record { table = goes.table ∙ made.table; plan = goes.same.plan ∙ made.plan; mode = goes.same.mode ∙ made.mode }

  there : ArePlacesOf f.plan tasks places
  there = subst (λ (q : Plan). ArePlacesOf q tasks places) (sym same) are

  end : AreLastOf f.plan Detect (seen now.view) words
  end = subst (λ (m : Mode). AreLastOf f.plan m (seen now.view) words) detects last

  pub reachable_places : IsReachable plan (places_at plan places)
  reachable_places =
      subst (λ (q : Plan). IsReachable q (places_at q places)) same (reachable f detects tasks board_tasks places there taken now known goes of words end)

  pub plain_places : (t : ℕ) (place : KeptPlace) → slice_get places t ≡ Some place → place.refused ≡ false
  plain_places = plain f detects tasks board_tasks places there taken now known goes of words end
