-- Laws about rows of different moments, and about what the viewers of all sites have seen.
use Rattle.std.specs.Prelude.{◌≡◌, ℕ, ◌≤◌, false, List, Option, None, Contains, length}
use Rattle.atomic_table.specs.Table.{State as TableState}
use Rattle.armus_base.specs.declared.status.Status.{Status}
use Rattle.armus_base.specs.Plans.{Plan}
use Rattle.armus_base.specs.CheckedPlans.{IsCheckedPlan}
use Rattle.armus_base.specs.calls.Boards.{IsLawful}
use Rattle.armus_base.specs.Deadlocks.{IsDeadBy, IsDeadIn}
use Rattle.armus_base.specs.Places.{state_at}
use Rattle.armus_base.specs.Runs.{Place}
use Rattle.armus_base.specs.calls.Seats.{IsAsFarOn}
use Rattle.board.specs.declared.mode.Mode.{Mode}
use Rattle.board.specs.declared.mode.Mode.TheVariants.{Detect}
use Rattle.board.specs.declared.view.View.{View}
use Rattle.board.specs.calls.Rule.{IsKeptBy, IsThere}
use Rattle.board.specs.calls.Seats.{Known}
use Rattle.board.specs.calls.Views.{avoids, seen}
use Rattle.sites.specs.calls.Checks.{AreAll}
use Rattle.sites.specs.calls.Passes.{AreBacked, IsDeadToAll}
use Rattle.sites.specs.calls.Snaps.{HasSeenLawful}

-- where each row is backed by what the viewer of its site has seen, at whatever moment, a task that is dead by the statuses of all rows is dead in
-- each lawful state as far on as what all viewers have seen
abbrev pub BackedRowsNameTheDead : Type 0
BackedRowsNameTheDead =
    (plan : Plan) (mode : Mode) (views : List Known) (rows : List (Option (List ℕ))) (list : List Status) (t : ℕ) → IsCheckedPlan plan →
    1 ≤ length views → AreAll (length views) rows list → AreBacked plan rows views → IsDeadBy list t → IsDeadToAll plan mode views t

-- some lawful state is as far on as what all viewers have seen: so whoever is dead in each such state is dead in this one
pub record HaveSeenLawful (plan : Plan) (mode : Mode) (views : List Known) : Type 0 where
  pub places : ℕ → Place
  pub lock : Option ℕ
  pub lawful : IsLawful (avoids mode) plan places lock
  pub far : (k : Known) → Contains views k → IsAsFarOn plan None places (seen k.view)
  pub dead : (t : ℕ) → IsDeadToAll plan mode views t → IsDeadIn (state_at plan places) t

-- they are views of a board at one moment: its table keeps the rule, and each is the view of a seat that is there
pub record AreOfOneMoment (plan : Plan) (mode : Mode) (views : List Known) : Type 0 where
  pub table : TableState (Unit {0}) View
  pub kept : IsKeptBy plan mode table
  pub there : (k : Known) → Contains views k → (j : ℕ) × IsThere table.views j k.view

-- at each moment of a board some lawful state is as far on as what all viewers have seen
abbrev pub EachMomentIsLawful : Type 0
EachMomentIsLawful = (plan : Plan) (mode : Mode) (views : List Known) → AreOfOneMoment plan mode views → HaveSeenLawful plan mode views

-- the viewer is one of a board of this plan that detects deadlock; it knows no task exactly, and some lawful state is as far on as what it has seen
pub record HasOnlyLooked (plan : Plan) (k : Known) : Type 0 where
  pub of_plan : k.view.plan ≡ plan
  pub detects : k.view.mode ≡ Detect
  pub none_exact : (u : ℕ) → (seen k.view).exact u ≡ false
  pub lawful : HasSeenLawful k

-- where each viewer, at whatever moment, has only looked on a board that detects deadlock, one lawful state is as far on as what all of them have seen
abbrev pub ViewersHaveOneState : Type 0
ViewersHaveOneState =
    (plan : Plan) (views : List Known) → IsCheckedPlan plan → ((k : Known) → Contains views k → HasOnlyLooked plan k) → HaveSeenLawful plan Detect views
