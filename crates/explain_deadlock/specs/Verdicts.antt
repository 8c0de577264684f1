-- The verdict: where the walk from the least task that waits leads.
use Rattle.std.specs.Prelude.{◌≡◌, ℕ, Bool, true, false, List, [], ◌∷◌, ◌++◌, Contains, Option, Some, None, filter, if◌then◌else◌, map, option_to_list, slice_get, slice_index_or}
use Rattle.armus_base.specs.declared.ids.TaskId.{TaskId}
use Rattle.armus_base.specs.Relations.{IsWalk, IsWalkCycle}
use Rattle.armus_base.specs.States.{Phases}
use Rattle.explain_deadlock.specs.Circles.{IsFirstThrough}
use Rattle.explain_deadlock.specs.declared.outcome.WaitVerdict.{WaitVerdict}
use Rattle.explain_deadlock.specs.declared.outcome.WaitVerdict.TheVariants.{Nobody, Circle, Chain}
use Rattle.explain_tasks.specs.declared.impeders.Impeder.{Impeder}
use Rattle.explain_tasks.specs.Facts.{FactsValue, is_deadlocked, is_waiting, situation_of, tasks_that}
use Rattle.explain_tasks.specs.Impeders.{impeders_by_facts}
use Rattle.explain_tasks.specs.Nexts.{IsNext, first_or, next_of}

-- the task with which the walk begins: the least deadlocked one, or else the least that waits, which is then held
abbrev pub walk_start : FactsValue → Option TaskId
walk_start f = first_or (slice_get (tasks_that is_deadlocked f) 0) (slice_get (tasks_that is_waiting f) 0)

-- The walk from a start along the nexts comes to its end, a task that has no next, by way of some tasks and, right before the end, this one.
pub record IsWalkTo (f : FactsValue) (phases : ℕ → Phases) (start held last : TaskId) : Type 0 where
  pub before : List TaskId
  pub starts : (d : TaskId) → slice_index_or (before ++ held ∷ last ∷ []) 0 d ≡ start
  pub steps : IsWalk (IsNext f phases) (before ++ held ∷ last ∷ [])
  pub ends : next_of f phases last.0 ≡ None

-- the deadlocked tasks of these impeders
abbrev pub deadlocked_in : FactsValue → List Impeder → List TaskId
deadlocked_in f impeders = filter (λ (t : TaskId). is_deadlocked (situation_of f t.0)) (map (λ (i : Impeder). i.t) impeders)

-- for whom a task with these impeders and this next waits: a deadlocked one for each deadlocked impeder, another one for its next alone
abbrev pub followers_by : FactsValue → List Impeder → Option TaskId → Bool → List TaskId
followers_by f impeders next deadlocked = if deadlocked then deadlocked_in f impeders else option_to_list next

-- for whom task t waits, in order of number
abbrev pub followers_of : FactsValue → (ℕ → Phases) → ℕ → List TaskId
followers_of f phases t = followers_by f (impeders_by_facts f phases t) (next_of f phases t) (is_deadlocked (situation_of f t))

-- task t waits for task u
abbrev pub HasFollower : FactsValue → (ℕ → Phases) → TaskId → TaskId → Type 0
HasFollower f phases t u = Contains (followers_of f phases t.0) u

-- The walk from a start along the nexts closes in a task, and this is the first circle through it.
pub record IsShownCircle (f : FactsValue) (phases : ℕ → Phases) (start : TaskId) (shown : List TaskId) : Type 0 where
  pub task : TaskId
  pub walked : List TaskId
  pub closes : IsWalkCycle (IsNext f phases) start (task ∷ walked)
  pub first : IsFirstThrough (HasFollower f phases) task shown

-- what the walk from the start shows: the first circle through the task in which it closes, or the last two tasks, where it comes to an end
abbrev pub IsVerdictFrom : FactsValue → (ℕ → Phases) → Option TaskId → WaitVerdict → Type 0
IsVerdictFrom f phases None v = v ≡ Nobody
IsVerdictFrom f phases (Some start) Nobody = ⊥
IsVerdictFrom f phases (Some start) (Circle shown) = IsShownCircle f phases start shown
IsVerdictFrom f phases (Some start) (Chain held last) = IsWalkTo f phases start held last

-- the verdict: where no task waits, that nobody does, else what the walk shows
abbrev pub IsVerdict : FactsValue → (ℕ → Phases) → WaitVerdict → Type 0
IsVerdict f phases v = IsVerdictFrom f phases (walk_start f) v

-- the shown tasks
abbrev pub shown_of : WaitVerdict → List TaskId
shown_of Nobody = []
shown_of (Circle shown) = shown
shown_of (Chain held last) = held ∷ last ∷ []

-- somebody waits for ever: the verdict is not that nobody does
abbrev pub somebody_waits : WaitVerdict → Bool
somebody_waits Nobody = false
somebody_waits _ = true
