-- Deadlocks: sets of waiting tasks, each of whose events is impeded by a task of the set.
use Rattle.std.specs.Prelude.{◌≡◌, ℕ, ◌<◌, Bool, true, Some, List, Contains, IsSome}
use Rattle.armus_base.specs.declared.event.Event.{Event}
use Rattle.armus_base.specs.declared.status.Status.{Status}
use Rattle.armus_base.specs.States.{State, if_published}

-- a relation that says on which event a task waits
abbrev pub WaitsOn : Type 1
WaitsOn = ℕ → Event → Type 0

-- a relation that says at which phase a task stands on a phaser
abbrev pub HasPhase : Type 1
HasPhase = ℕ → ℕ → ℕ → Type 0

-- the task waits on some event, and a task of the set is a member of its phaser with a phase below
pub record IsImpededWithin (waits_on : WaitsOn) (has_phase : HasPhase) (tasks : ℕ → Bool) (t : ℕ) : Type 0 where
  pub event : Event
  pub waits : waits_on t event
  pub by : ℕ
  pub inside : tasks by ≡ true
  pub phase : ℕ
  pub impedes : has_phase by event.p.0 phase
  pub below : phase < event.n

-- a deadlocked set: it has a task, and each of its tasks is impeded within it
pub record IsDeadlockedSet (waits_on : WaitsOn) (has_phase : HasPhase) (tasks : ℕ → Bool) : Type 0 where
  pub some : (t : ℕ) × tasks t ≡ true
  pub each : (t : ℕ) → tasks t ≡ true → IsImpededWithin waits_on has_phase tasks t

-- a dead task: one that stands in some deadlocked set
pub record IsDead (waits_on : WaitsOn) (has_phase : HasPhase) (t : ℕ) : Type 0 where
  pub tasks : ℕ → Bool
  pub inside : tasks t ≡ true
  pub deadlocked : IsDeadlockedSet waits_on has_phase tasks

-- in this state task t is published on the event
abbrev pub IsPublishedOn : State → WaitsOn
IsPublishedOn s t e = s.published t ≡ Some e

-- in this state task t is a member of p with this phase
abbrev pub IsAtPhase : State → HasPhase
IsAtPhase s t p n = s.phases t p ≡ Some n

-- task t is dead in this state
abbrev pub IsDeadIn : State → ℕ → Type 0
IsDeadIn s t = IsDead (IsPublishedOn s) (IsAtPhase s) t

-- nobody is dead in this state
abbrev pub NobodyDead : State → Type 0
NobodyDead s = (u : ℕ) → IsDeadIn s u → ⊥

-- a held task: it is published and not dead
abbrev pub IsHeld : State → ℕ → Type 0
IsHeld s t = IsSome (s.published t) × (IsDeadIn s t → ⊥)

-- task t would be dead, were it published on the event
abbrev pub WouldBeDead : State → ℕ → Event → Type 0
WouldBeDead s t e = IsDeadIn (if_published s t e) t

-- the list has a status of task t with this event
abbrev pub IsListedOn : List Status → WaitsOn
IsListedOn list t e = (s : Status) × Contains list s × s.t.0 ≡ t × s.event ≡ e

-- the list has a status of task t with this phase on p
abbrev pub IsListedAt : List Status → HasPhase
IsListedAt list t p n =
    (s : Status) × Contains list s × s.t.0 ≡ t × Contains s.phases (record { p = record { 0 = p }; n = n })

-- task t is dead by these statuses, whatever moments they are of
abbrev pub IsDeadBy : List Status → ℕ → Type 0
IsDeadBy list t = IsDead (IsListedOn list) (IsListedAt list) t
