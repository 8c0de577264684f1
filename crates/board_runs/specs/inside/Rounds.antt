-- The seats of the children whom tasks forked.
use Rattle.std.specs.Prelude.{◌≡◌, List, Contains}
use Rattle.armus_base.specs.Plans.{Plan}
use Rattle.armus_base.specs.Runs.{first_place}
use Rattle.board.specs.calls.Views.{own_place}
use Rattle.board.specs.calls.Seats.{Known}
use Rattle.board_runs.specs.calls.Turns.{Working}

-- the seat of a child which one of these tasks forked
abbrev pub IsChildIn : List Working → Known → Type 0
IsChildIn tasks seat = (task : Working) × Contains tasks task × Contains task.children seat

-- a seat of a board of this plan, whose task has made no step
abbrev pub IsAtStart : Plan → Known → Type 0
IsAtStart plan seat = own_place seat.view ≡ first_place × seat.view.plan ≡ plan
