-- Runs over several sites: what their keeper holds of each site.
use Rattle.std.specs.Prelude.{◌≡◌, ℕ, ◌<◌, false, List, Option, Some, length}
use Rattle.armus_base.specs.declared.ending.Final.{Final}
use Rattle.armus_base.specs.declared.status.Status.{Status}
use Rattle.armus_base.specs.calls.Boards.{IsLawful}
use Rattle.armus_base.specs.Finals.{final_of}
use Rattle.armus_base.specs.calls.Finals.{statuses_of}
use Rattle.armus_base.specs.Plans.{Plan}
use Rattle.armus_base.specs.Runs.{IsFinal, Place}
use Rattle.armus_base.specs.States.{State}
use Rattle.sites.specs.calls.Keeping.{held}
use Rattle.sites.specs.calls.Parts.{HoldParts}
use Rattle.sites.specs.calls.Rows.{IsRowOf}
use Rattle.sites.specs.calls.Snaps.{IsBacked}

-- the value is that of the state in which a maximal plain run ends, and each site's row stores its part of the statuses of that state, with all their phases
pub record HoldFinal (plan : Plan) (sites : ℕ) (rows : List (Option (List ℕ))) (end : Final) : Type 0 where
  pub state : State
  pub final : IsFinal plan state
  pub is_it : end ≡ final_of plan state
  pub parts : HoldParts sites rows (statuses_of plan state)

-- the row stores statuses of the site that are backed by the places of a lawful state of a board that detects deadlock
pub record IsRowOfRun (plan : Plan) (sites site : ℕ) (row : List ℕ) : Type 0 where
  pub list : List Status
  pub stored : IsRowOf sites site list row
  pub places : ℕ → Place
  pub lock : Option ℕ
  pub lawful : IsLawful false plan places lock
  pub backed : IsBacked plan list places

-- of each of so many sites a row or none is held, and each row that is held is such
pub record HoldRowsOfRun (plan : Plan) (sites : ℕ) (rows : List (Option (List ℕ))) : Type 0 where
  pub count : length rows ≡ sites
  pub each : (site : ℕ) (row : List ℕ) → site < sites → held rows site ≡ Some row → IsRowOfRun plan sites site row
