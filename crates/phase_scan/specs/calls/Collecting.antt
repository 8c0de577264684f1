-- What a collect does to its seat, and all that it tells.
use Rattle.std.specs.Prelude.{◌≡◌, true, List}
use Rattle.armus_base.specs.declared.status.Status.{Status}
use Rattle.armus_base.specs.Plans.{Plan}
use Rattle.board.specs.calls.Seats.{Known}
use Rattle.phase_scan.specs.calls.Looks.{LoadsAlone}
use Rattle.phase_scan.specs.calls.Collects.{CountsLoads, IsCollect}
use Rattle.phase_scan.specs.calls.Collected.{HasFinds, IsCollected}
use Rattle.phase_scan.specs.calls.Settled.{KnowsAll, TellsState}

-- The seat has collected these statuses: it has made loads alone, those of a collect and so many, and the statuses tell what was seen. If it has the lock
-- it has found each task; if it knows all tasks exactly, it has found the state that the board is in.
pub record HasCollected (plan : Plan) (list : List Status) (before now : Known) : Type 0 where
  pub goes_on : LoadsAlone before now
  pub collect : IsCollect plan list before now
  pub loads : CountsLoads plan list before now
  pub tells : IsCollected list before now
  pub finds : before.view.holds ≡ true → HasFinds list now
  pub settled : KnowsAll before → TellsState list before
