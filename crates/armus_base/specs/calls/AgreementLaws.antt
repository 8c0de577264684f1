-- Laws of agreement: avoided runs and plain runs tell of deadlock alike, a dead task is dead in the final state, and a cycle of waiting tasks is deadlocked.
use Rattle.std.specs.Prelude.{◌≡◌, ℕ, ◌<◌, ◌≤◌, ◌-◌, ◌↔◌, ◌⊎◌, Bool, true, false, List, Option, Some, None, length, slice_index_or, IsSome}
use Rattle.std.proofs.Common.{suc}
use Rattle.armus_base.specs.declared.ending.TaskEnd.TheVariants.{Done, Refused}
use Rattle.armus_base.specs.declared.event.Event.{Event}
use Rattle.armus_base.specs.declared.ids.TaskId.{TaskId}
use Rattle.armus_base.specs.declared.status.Status.{Status}
use Rattle.armus_base.specs.Avoidance.{IsAvoidedFinal, IsAvoidedRun}
use Rattle.armus_base.specs.calls.Boards.{IsLawful}
use Rattle.armus_base.specs.CheckedPlans.{IsCheckedPlan}
use Rattle.armus_base.specs.Deadlocks.{IsAtPhase, IsDeadIn, IsDeadlockedSet, IsHeld, IsImpededWithin, IsListedAt, IsListedOn, IsPublishedOn, NobodyDead}
use Rattle.armus_base.specs.Finals.{end_of, final_of}
use Rattle.armus_base.specs.Graphs.{WaitsFor}
use Rattle.armus_base.specs.Places.{done_by, state_at}
use Rattle.armus_base.specs.Plans.{Plan}
use Rattle.armus_base.specs.Relations.{IsWalk, IsWalkCycle}
use Rattle.armus_base.specs.Runs.{IsFinal, IsLegalRun, IsMaximal, IsPlainRun, Place, places, state_after}
use Rattle.armus_base.specs.States.{State, Step}
use Rattle.armus_base.specs.AgreementLaws.{WaitsForEnded, has_task}

-- somebody is dead in this state
abbrev pub SomebodyDead : State → Type 0
SomebodyDead s = (t : ℕ) × IsDeadIn s t

-- somebody is refused in this state
abbrev pub SomebodyRefused : State → Type 0
SomebodyRefused s = (t : ℕ) × IsSome (s.refused t)

-- task t has ended so that its await was refused
abbrev pub HasEndedRefused : State → ℕ → Type 0
HasEndedRefused s t = (e : Event) × (end_of s t ≡ Refused e)

-- where an avoided run has ended, those are refused who are tasks of the plan and have ended so
abbrev pub RefusedEnds : Type 0
RefusedEnds =
    (plan : Plan) (s : State) (t : ℕ) → IsCheckedPlan plan → IsAvoidedFinal plan s →
    IsSome (s.refused t) ↔ ((t < length plan.parents) × HasEndedRefused s t)

-- where nobody is dead in the final state, each avoided run that has ended ends in it
abbrev pub AvoidedEndsAlike : Type 0
AvoidedEndsAlike = (plan : Plan) (f s : State) → IsCheckedPlan plan → IsFinal plan f → IsAvoidedFinal plan s → NobodyDead f → s ≡ f

-- somebody is refused where an avoided run has ended exactly where somebody is dead in the final state
abbrev pub RefusedWhereDead : Type 0
RefusedWhereDead =
    (plan : Plan) (f s : State) → IsCheckedPlan plan → IsFinal plan f → IsAvoidedFinal plan s → SomebodyRefused s ↔ SomebodyDead f

-- where nobody is dead in the final state, an avoided run ends in it
abbrev pub FinalIsAvoided : Type 0
FinalIsAvoided = (plan : Plan) (f : State) → IsCheckedPlan plan → IsFinal plan f → NobodyDead f → IsAvoidedFinal plan f

-- whoever is dead after a plain run is dead in the final state
abbrev pub DeadIsFinal : Type 0
DeadIsFinal =
    (plan : Plan) (h : List Step) (f : State) (t : ℕ) → IsCheckedPlan plan → IsPlainRun plan h → IsFinal plan f → IsDeadIn (state_after h) t → IsDeadIn f t

-- whoever is dead in a lawful state of a board that detects deadlock is dead in the final state
abbrev pub DeadIsFinalAtLawful : Type 0
DeadIsFinalAtLawful =
    (plan : Plan) (a : ℕ → Place) (lock : Option ℕ) (f : State) (t : ℕ) → IsCheckedPlan plan → IsLawful false plan a lock → IsFinal plan f →
    IsDeadIn (state_at plan a) t → IsDeadIn f t

-- no plain run makes a step of a task behind the place at which some run has it dead
abbrev pub DeadIsNeverPassed : Type 0
DeadIsNeverPassed =
    (plan : Plan) (h g : List Step) (t : ℕ) → IsCheckedPlan plan → IsLegalRun plan h → IsPlainRun plan g → IsDeadIn (state_after h) t →
    done_by (places g) t ≤ done_by (places h) t

-- how many actions of a task a plain run may have done, where the task has come to this place and goes no further: no more, and of a refused one its block
abbrev pub furthest : ℕ → Option ℕ → ℕ
furthest k None = k
furthest k (Some d) = suc k

-- where an avoided run has ended, each task has come as far as in any plain run, but for the block of a refused one
abbrev pub AvoidedComesAsFar : Type 0
AvoidedComesAsFar =
    (plan : Plan) (h g : List Step) (t : ℕ) → IsCheckedPlan plan → IsAvoidedRun plan h → IsMaximal plan h → IsPlainRun plan g →
    done_by (places g) t ≤ furthest (places h t).done (places h t).dropped

-- a task that is done in the final state is done where an avoided run has ended
abbrev pub DoneStaysDone : Type 0
DoneStaysDone =
    (plan : Plan) (f s : State) (t : ℕ) → IsCheckedPlan plan → IsFinal plan f → IsAvoidedFinal plan s → end_of f t ≡ Done → end_of s t ≡ Done

-- a task that is refused where an avoided run has ended is not done in the final state
abbrev pub RefusedWasNotDone : Type 0
RefusedWasNotDone =
    (plan : Plan) (f s : State) (t : ℕ) → IsCheckedPlan plan → IsFinal plan f → IsAvoidedFinal plan s → IsSome (s.refused t) → end_of f t ≡ Done → ⊥

-- a stuck task: it stands in a set each of whose tasks is unforked, or waits and is impeded by one of the set
abbrev pub IsStuckIn : State → ℕ → Type 0
IsStuckIn s t =
    (tasks : ℕ → Bool) × (tasks t ≡ true)
    × ((u : ℕ) → tasks u ≡ true → (s.forked u ≡ false) ⊎ IsImpededWithin (IsPublishedOn s) (IsAtPhase s) tasks u)

-- a task that is refused where an avoided run has ended is stuck in the final state
abbrev pub RefusedWasStuck : Type 0
RefusedWasStuck =
    (plan : Plan) (f s : State) (t : ℕ) → IsCheckedPlan plan → IsFinal plan f → IsAvoidedFinal plan s → IsSome (s.refused t) → IsStuckIn f t

-- only forked tasks are members of phasers
abbrev pub OnlyForkedMembers : State → Type 0
OnlyForkedMembers s = (t p n : ℕ) → s.phases t p ≡ Some n → s.forked t ≡ true

-- and if it is forked there, and only forked tasks are members, it is dead there
abbrev pub RefusedWasDead : Type 0
RefusedWasDead =
    (plan : Plan) (f s : State) (t : ℕ) → IsCheckedPlan plan → IsFinal plan f → IsAvoidedFinal plan s → OnlyForkedMembers f → IsSome (s.refused t) →
    f.forked t ≡ true → IsDeadIn f t

-- so does each held task of the final state
abbrev pub HeldHasEnd : Type 0
HeldHasEnd = (plan : Plan) (f : State) (t : ℕ) → IsCheckedPlan plan → IsFinal plan f → IsHeld f t → WaitsForEnded f t

-- there are some tasks, each waits for the one behind it, and the last one for the first
pub record IsWaitCycle (list : List Status) (tasks : List TaskId) : Type 0 where
  pub some : 0 < length tasks
  pub steps : IsWalk (WaitsFor list) tasks
  pub back : (t : TaskId) → WaitsFor list (slice_index_or tasks (length tasks - 1) t) (slice_index_or tasks 0 t)

-- the tasks of such a cycle are a deadlocked set of the statuses
abbrev pub CycleIsDeadlocked : Type 0
CycleIsDeadlocked =
    (list : List Status) (tasks : List TaskId) → IsWaitCycle list tasks → IsDeadlockedSet (IsListedOn list) (IsListedAt list) (has_task tasks)

-- and where the statuses are those of a state's final value, a deadlocked set of the state
abbrev pub CycleIsDeadlockedIn : Type 0
CycleIsDeadlockedIn =
    (plan : Plan) (s : State) (tasks : List TaskId) → IsWaitCycle (final_of plan s).blocked tasks →
    IsDeadlockedSet (IsPublishedOn s) (IsAtPhase s) (has_task tasks)

-- the cycle that a walk along the waits reaches is such a cycle
abbrev pub WalkCycleWaits : Type 0
WalkCycleWaits = (list : List Status) (start : TaskId) (cycle : List TaskId) → IsWalkCycle (WaitsFor list) start cycle → IsWaitCycle list cycle
