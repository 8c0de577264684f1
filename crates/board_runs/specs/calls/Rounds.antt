-- A round of the tasks of a run: each that lives takes a turn, and then whoever was forked lives too.
use Rattle.std.specs.Prelude.{map, flat_map, ◌≡◌, ◌≢◌, ◌↔◌, ◌⊎◌, ℕ, true, List, [], ◌++◌, All, Contains, length, sum_by}
use Rattle.std.specs.List.Sorted.{IsPermutation}
use Rattle.armus_base.specs.Plans.{Action}
use Rattle.board.specs.calls.Seats.{Frame, Known}
use Rattle.board_runs.specs.declared.board_tasks.Rounded.{Rounded}
use Rattle.board_runs.specs.calls.Turns.{ActsNoMore, EachActs, EachEndsTurn, EndsTurnWithin, Working, in_32_bits, loads_between, tasks_forked}
use Rattle.board_runs.specs.calls.TaskSeats.{Tasks, all_of, own_number}

-- a task whose children's seats were taken
abbrev pub emptied : Working → Working
emptied task = record { seat = task.seat; children = [] }

-- the task of a child's seat
abbrev pub fresh : Known → Working
fresh seat = record { seat = seat; children = [] }

-- the tasks of all children's seats of a task
abbrev pub fresh_of : Working → List Working
fresh_of task = map fresh task.children

-- the tasks that are forked by the steps of several tasks
abbrev pub all_forked : List (List Action) → List ℕ
all_forked owns = flat_map tasks_forked owns

-- A round of turns of these tasks, and what is told of it: each has made its own steps, and has come to the end of its turn, with this bound on the loads of
-- its worker; then the children whom they forked stand among them. Told is how many steps were made, in 32 bits, and whether a task was forked.
pub record MakesRound (bound : ℕ) (board : Frame) (before now : List Working) (told : Rounded) : Type 0 where
  pub owns : List (List Action)
  pub turned : List Working
  pub each : EachActs board owns before turned
  pub ends : EachEndsTurn bound before turned
  pub joined : IsPermutation (map emptied turned ++ flat_map fresh_of turned) now
  pub actions : told.actions ≡ in_32_bits (sum_by length owns)
  pub forked : told.forked ≡ true ↔ (all_forked owns ≢ [])

-- A round of the tasks of a run: those that live have made it, and those that had ended before are as they were; whoever acts no more then lives no more.
pub record HasRound (bound : ℕ) (board : Frame) (before now : Tasks) (told : Rounded) : Type 0 where
  pub live : List Working
  pub round : MakesRound bound board before.live live told
  pub all : IsPermutation (live ++ before.ended) (all_of now)
  pub act_on : All (λ task. ActsNoMore task.seat → ⊥) now.live

-- The task was one of these, and a turn that began where its seat stood then has ended, with this bound on so many loads.
pub record HasTakenTurn (bound loads : ℕ) (before : List Working) (now : Working) : Type 0 where
  pub was : Working
  pub among : Contains before was
  pub same : own_number was ≡ own_number now
  pub ends : EndsTurnWithin bound loads was.seat now.seat

-- Each of these tasks has taken a turn since those lived, with this bound on the loads that all of them made since, or had ended before.
pub record HaveEnded (bound : ℕ) (before now : Tasks) : Type 0 where
  pub each : All (λ task. HasTakenTurn bound (loads_between (all_of before) (all_of now)) before.live task ⊎ Contains before.ended task) (all_of now)
