-- Of each task a turn has ended, once all have ended theirs.
use Rattle.std.proofs.Common.{◌⊎◌, ℕ, Bool, get_or, inl, inr}
use Rattle.std.specs.Prelude.{All, Contains}
use Rattle.board.specs.calls.Seats.{Frame, Known}
use Rattle.board_runs.specs.calls.Turns.{ActsNoMore, EndsTurnWithin, Working, is_done, is_refused, loads_between}
use Rattle.board_runs.specs.calls.TaskSeats.{Tasks, all_of}
use Rattle.board_runs.specs.calls.Rounds.{HasTakenTurn}
use Rattle.board_runs.proofs.Between.{to_each}
use Rattle.task_runner.specs.inside.BoardRuns.{HaveAllEnded, bound_on}

-- the seat stands where a turn of it has ended, with this bound on so many loads
abbrev pub HasEndedTurn : ℕ → ℕ → Known → Type 0
HasEndedTurn bound loads now = (before : Known) × EndsTurnWithin bound loads before now

-- whose task acts no more has ended its turn
ends_now : (bound loads : ℕ) (seat : Known) → ActsNoMore seat → HasEndedTurn bound loads seat
ends_now bound loads seat (inl done) = (seat, inl (is_done done))
ends_now bound loads seat (inr left) = (seat, inl (is_refused left))

by_turn : (bound loads : ℕ) (before : Tasks) → All (λ (w : Working). ActsNoMore w.seat) before.ended → (w : Working) → HasTakenTurn bound loads before.live w ⊎ Contains before.ended w → HasEndedTurn bound loads w.seat
by_turn bound loads before ended w (inl turn) = (turn.was.seat, turn.ends)
by_turn bound loads before ended w (inr i) = ends_now bound loads w.seat (to_each (λ (v : Working). ActsNoMore v.seat) before.ended ended w i)

pub turns_ended :
    (f : Frame) (with_pass : Bool) (tasks : Tasks) (ended : HaveAllEnded f with_pass tasks) →
    All (λ (w : Working). HasEndedTurn (bound_on f with_pass) (loads_between (all_of ended.before) (all_of tasks)) w.seat) (all_of tasks)
turns_ended f with_pass tasks ended = λ k d l.
    by_turn (bound_on f with_pass) (loads_between (all_of ended.before) (all_of tasks)) ended.before ended.were.ended (get_or (all_of tasks) k d) (ended.ends.each k d l)
