-- What the turns of tasks make of their seats and of their children's.
use Rattle.std.specs.Prelude.{true, ◌≡◌, ◌≢◌, ℕ, ◌+◌, ◌<◌, ◌≤◌, ◌⊎◌, false, List, [], ◌∷◌, ◌++◌, Some, None, length, IsSome, is_some, Result, IfOk, OnOk, sum_by, ◌*◌, ◌-◌, ◌^◌, min}
use Rattle.armus_base.specs.declared.event.Event.{Event}
use Rattle.armus_base.specs.Limits.{max_ops, max_phasers}
use Rattle.armus_base.specs.Plans.{Plan, Action, Forks, action_at, actions}
use Rattle.armus_base.specs.Runs.{Place, IsByCode, first_place, next_place}
use Rattle.armus_base.specs.calls.Runs.{IsPrefix}
use Rattle.armus_base.specs.calls.Places.{phases_at_place}
use Rattle.armus_base.specs.calls.Seats.{MayHold}
use Rattle.pl_core.specs.declared.place.Place.{Place as KeptPlace}
use Rattle.board.specs.calls.Views.{avoids, own_place, seen, task_of}
use Rattle.board.specs.calls.Steps.{IsSameSeat, own_phase}
use Rattle.board.specs.calls.Locking.{FindsHeld, IsBeforeAwait}
use Rattle.board.specs.calls.Seats.{Frame, IsOf, IsSeat, Known, event_of}
use Rattle.phase_scan.specs.calls.Looks.{FindsBehind}
use Rattle.board_runs.specs.declared.task.Pause.{Pause}
use Rattle.board_runs.specs.declared.task.Pause.TheVariants.{Forked, TurnOver}

-- a task: its own seat, and the seats of the children that it has forked
pub record Working : Type 0 where
  pub seat : Known
  pub children : List Known

-- from place a these steps of task t lead to place b, each the next one by its code
abbrev pub LeadsByCode : Plan → ℕ → Place → List Action → Place → Type 0
LeadsByCode plan t a [] b = b ≡ a
LeadsByCode plan t a (x ∷ xs) b = IsByCode plan t a.done a.dropped x × LeadsByCode plan t (next_place a.done a.dropped x) xs b

-- the tasks that these steps fork, in order
abbrev pub tasks_forked : List Action → List ℕ
tasks_forked [] = []
tasks_forked (Forks c ∷ xs) = c ∷ tasks_forked xs
tasks_forked (x ∷ xs) = tasks_forked xs

-- a seat of task c, which has made no step and is the only exact one
pub record IsChildSeat (board : Frame) (c : ℕ) (seat : Known) : Type 0 where
  pub of_board : IsOf seat board
  pub own : seat.view.own ≡ Some c
  pub alone : (u : ℕ) → (seen seat.view).exact u ≡ true → u ≡ c
  pub first : own_place seat.view ≡ first_place
  pub free : seat.view.holds ≡ false
  pub kept : IsSeat seat

-- one such seat for each of these tasks, in order
pub data AreChildSeats (board : Frame) : List ℕ → List Known → Type 0 where
  no_child : AreChildSeats board [] []
  one_child : {c : ℕ} {cs : List ℕ} {seat : Known} {seats : List Known} → IsChildSeat board c seat → AreChildSeats board cs seats → AreChildSeats board (c ∷ cs) (seat ∷ seats)

-- the seat's task has made these steps, and it has made loads besides
pub record Goes (own : List Action) (before now : Known) : Type 0 where
  pub table : now.table ≡ before.table
  pub same : IsSameSeat before.view now.view
  pub place : LeadsByCode before.view.plan (task_of before.view) (own_place before.view) own (own_place now.view)
  pub later : (u : ℕ) → IsPrefix ((seen before.view).places u) ((seen now.view).places u)
  pub exact : (u : ℕ) → (seen now.view).exact u ≡ (seen before.view).exact u
  pub loads : before.view.loads ≤ now.view.loads
  pub kept : IsSeat now

-- a task has made these steps, of which a refused one makes none, and has the seats of the children that it forked by them
pub record MakesActions (board : Frame) (own : List Action) (before now : Working) : Type 0 where
  pub goes : Goes own before.seat now.seat
  pub refused : IsSome (own_place before.seat.view).dropped → own ≡ []
  pub new : List Known
  pub children : now.children ≡ before.children ++ new
  pub seats : AreChildSeats board (tasks_forked own) new

-- how many actions a task may make: two for each op, and a refusal and a drop of each phaser
abbrev pub max_actions : ℕ
max_actions = 2 * max_ops + (max_phasers + 1)

-- How many actions of a task are counted: no more than the actions that it has done, and then a refusal and a drop of each phaser.
pub record CountsActions (counted : ℕ) (now : Working) : Type 0 where
  pub unrefused : (own_place now.seat.view).dropped ≡ None → counted ≤ (own_place now.seat.view).done
  pub few : counted ≤ length (actions now.seat.view.plan (task_of now.seat.view)) + (max_phasers + 1)

-- task u is seen where nothing is seen of it, or as a member of the event's phaser below its phase
abbrev pub IsSeenBehind : Known → Event → ℕ → Type 0
IsSeenBehind seat e u =
    ((seen seat.view).places u ≡ first_place)
    ⊎ ((n : ℕ) × phases_at_place seat.view.plan u ((seen seat.view).places u) e.p.0 ≡ Some n × n < e.n)

-- the seat's task has done its code
pub record IsDone (seat : Known) : Type 0 where
  pub idle : event_of seat ≡ None
  pub unrefused : (own_place seat.view).dropped ≡ None
  pub past : action_at seat.view.plan (task_of seat.view) (own_place seat.view).done ≡ None

-- the seat's task is refused, and a member of nothing
pub record HasLeftAll (seat : Known) : Type 0 where
  pub refused : IsSome (own_place seat.view).dropped
  pub nothing : (p : ℕ) → own_phase seat.view p ≡ None

-- the seat's task acts no more: it has done its code, or is refused
abbrev pub ActsNoMore : Known → Type 0
ActsNoMore seat = IsDone seat ⊎ HasLeftAll seat

-- how far the seat's task has come
abbrev pub standing_of : Known → KeptPlace
standing_of seat = record { events = (own_place seat.view).done; refused = is_some (own_place seat.view).dropped }

-- The seat's last load was that of a look, which found a member of its event's phaser behind; it had made as many loads when it began to look as it had
-- before, or more.
pub record FoundBehindSince (before now : Known) : Type 0 where
  pub between : Known
  pub since : before.view.loads ≤ between.view.loads
  pub task : ℕ
  pub phase : ℕ
  pub found : FindsBehind task phase between now

-- The last that the seat did was a try for the lock, which found it held by task u and counts as a load; it had made as many loads when it tried as it had
-- before, or more, so the try is one of this turn.
pub record FoundHeldSince (u : ℕ) (before now : Known) : Type 0 where
  pub between : Known
  pub since : before.view.loads ≤ between.view.loads
  pub found : FindsHeld u between now

-- How a turn ends that began where the seat stood before, by what the seat has seen: its task is done; or it is refused and a member of nothing; or it
-- is published, and the task that is scanned next is seen behind, as a look of this turn found; or, where deadlock is avoided, it stands before an await
-- that it has not published, and another task, which it found to hold the lock, is seen at a place at which it may hold it.
pub data EndsTurn (before now : Known) : Type 0 where
  is_done : IsDone now → EndsTurn before now
  is_refused : HasLeftAll now → EndsTurn before now
  is_behind :
      (e : Event) → event_of now ≡ Some e → (seen now.view).scanned < length now.view.plan.parents →
      IsSeenBehind now e (seen now.view).scanned → FoundBehindSince before now → EndsTurn before now
  is_locked_out :
      (u : ℕ) → avoids now.view.mode ≡ true → IsBeforeAwait now → u ≢ task_of now.view →
      MayHold now.view.plan u ((seen now.view).places u) → FoundHeldSince u before now → EndsTurn before now

-- the seat's task is published or, where deadlock is avoided, stands before an await that it has not published
abbrev pub StandsAtAwait : Known → Type 0
StandsAtAwait seat = IsSome (event_of seat) ⊎ (avoids seat.view.mode ≡ true × IsBeforeAwait seat)

-- a count of 64 bits: so many, or the greatest number of 64 bits, at which it stands still
abbrev pub in_64_bits : ℕ → ℕ
in_64_bits n = min n (2 ^ 64 - 1)

-- a worker: how many loads were counted with its cells, in 64 bits
pub record WorkerLoads : Type 0 where
  pub loads : ℕ

-- While the seat went from the first to the second, the worker has counted no more loads than the seat has made.
abbrev pub CountsLoadsOf : Known → Known → WorkerLoads → WorkerLoads → Type 0
CountsLoadsOf before now old new = before.view.loads + new.loads ≤ now.view.loads + old.loads

-- How a turn ends where so many loads were made, and a bound is set: as any turn does or, where there are more of them, at an await, whether its task has looked
-- there or not. A count of 64 bits is never above the greatest one.
abbrev pub EndsTurnWithin : ℕ → ℕ → Known → Known → Type 0
EndsTurnWithin bound loads before now = EndsTurn before now ⊎ (bound < in_64_bits loads × StandsAtAwait now)

-- Why a task acts no further: it has forked a task, whose seat is new among its children's; or its turn is over, with this bound on so many loads, and it has
-- forked nobody.
abbrev pub PausesAt : ℕ → ℕ → Pause → Working → Working → Type 0
PausesAt bound loads Forked before now = (seat : Known) × now.children ≡ before.children ++ seat ∷ []
PausesAt bound loads TurnOver before now = EndsTurnWithin bound loads before.seat now.seat × now.children ≡ before.children

-- a task of this board whose turn may come: its seat does not hold the lock
pub record MayTakeTurn (board : Frame) (task : Working) : Type 0 where
  pub of_board : IsOf task.seat board
  pub kept : IsSeat task.seat
  pub free : task.seat.view.holds ≡ false

-- each task has made its own steps
pub data EachActs (board : Frame) : List (List Action) → List Working → List Working → Type 0 where
  no_task : EachActs board [] [] []
  one_task :
      {own : List Action} {owns : List (List Action)} {before now : Working} {befores nows : List Working} →
      MakesActions board own before now → EachActs board owns befores nows → EachActs board (own ∷ owns) (before ∷ befores) (now ∷ nows)

-- how many loads these tasks have made
abbrev pub loads_made_by : List Working → ℕ
loads_made_by tasks = sum_by (λ task. task.seat.view.loads) tasks

-- how many loads they have made since
abbrev pub loads_between : List Working → List Working → ℕ
loads_between before now = loads_made_by now - loads_made_by before

-- One worker takes these turns, one after the other, and its tasks have made so many loads before them in this round. Each comes to its end, with this bound
-- on the loads up to there.
pub data TakesInOrder (bound : ℕ) : ℕ → List Working → List Working → Type 0 where
  no_turn : {loads : ℕ} → TakesInOrder bound loads [] []
  one_turn :
      {loads : ℕ} {before now : Working} {befores nows : List Working} (made : ℕ) → now.seat.view.loads ≡ before.seat.view.loads + made →
      EndsTurnWithin bound (loads + made) before.seat now.seat → TakesInOrder bound (loads + made) befores nows →
      TakesInOrder bound loads (before ∷ befores) (now ∷ nows)

-- Each task has come to the end of its turn: one worker has taken all these turns in a round with this bound, or some workers those of the tasks in front,
-- and others those of the tasks behind.
pub data EachEndsTurn (bound : ℕ) : List Working → List Working → Type 0 where
  by_one_worker : {befores nows : List Working} → TakesInOrder bound 0 befores nows → EachEndsTurn bound befores nows
  by_several :
      {front behind front_now behind_now : List Working} → EachEndsTurn bound front front_now → EachEndsTurn bound behind behind_now →
      EachEndsTurn bound (front ++ behind) (front_now ++ behind_now)

-- a count of 32 bits: so many, or the greatest number of 32 bits, at which it stands still
abbrev pub in_32_bits : ℕ → ℕ
in_32_bits n = min n (2 ^ 32 - 1)

-- Each task has made its own steps. Where memory lasted, each has come to the end of its turn, cut short only where the tasks of its worker have made more
-- loads in this round than the bound, and all their steps are counted, in 32 bits.
pub record TakesTurns {E : Type 0} (bound : ℕ) (board : Frame) (befores nows : List Working) (counted : Result ℕ E) : Type 0 where
  pub owns : List (List Action)
  pub each : EachActs board owns befores nows
  pub actions : IfOk counted (λ n. n ≡ in_32_bits (sum_by length owns))
  pub ends : OnOk counted (EachEndsTurn bound befores nows)
