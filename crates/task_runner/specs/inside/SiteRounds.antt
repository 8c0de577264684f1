-- A run over several sites, between its rounds and at its end.
use Rattle.std.specs.Prelude.{◌≡◌, ℕ, ◌≤◌, false, List, Option, None, All, length}
use Rattle.armus_base.specs.declared.ending.Final.{Final}
use Rattle.armus_base.specs.declared.status.Status.{Status}
use Rattle.armus_base.specs.calls.Boards.{IsLawful}
use Rattle.armus_base.specs.calls.Finals.{statuses_of}
use Rattle.armus_base.specs.Limits.{max_tasks}
use Rattle.armus_base.specs.Plans.{Plan}
use Rattle.armus_base.specs.Runs.{Place}
use Rattle.armus_base.specs.calls.Statuses.{IsInOrder}
use Rattle.armus_base.specs.calls.Limits.{max_sites}
use Rattle.board.specs.calls.Seats.{Frame, IsOf, Known}
use Rattle.sites.specs.calls.Passes.{AreBacked}
use Rattle.sites.specs.calls.Snaps.{HasSeenLawful, IsBacked}
use Rattle.world_runs.specs.calls.PlainRuns.{IsPlainEnd}

-- The viewers of so many sites, and the rows that their keeper holds: each viewer is one of this board, and what it has seen was so in some lawful state;
-- each row that is held stores statuses of its site that are backed by what the viewer of the site has seen.
pub record AreWatching (board : Frame) (sites : ℕ) (views : List Known) (rows : List (Option (List ℕ))) : Type 0 where
  pub made : All (λ k. IsOf k board) views
  pub lawful : All HasSeenLawful views
  pub some : 1 ≤ sites
  pub few : sites ≤ max_sites
  pub count : length views ≡ sites
  pub kept : length rows ≡ sites
  pub backed : AreBacked board.plan rows views

-- the value is that of the one final state, and the list has the statuses of that state with all their phases, as its places have them
pub record IsWholeEnd (plan : Plan) (end : Final) (list : List Status) : Type 0 where
  pub plain : IsPlainEnd plan end
  pub statuses : list ≡ statuses_of plan plain.state
  pub in_order : IsInOrder list
  pub few : length list ≤ max_tasks
  pub places : ℕ → Place
  pub lawful : IsLawful false plan places None
  pub backed : IsBacked plan list places
