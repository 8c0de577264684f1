-- The events that the tasks of a state await, and who impedes them.
use Rattle.std.specs.Prelude.{◌≡◌, ◌↔◌, ◌<◌, ◌≤◌, ◌+◌, ◌-◌, ℕ, List, [], Option, None, Some, length, All, Contains, slice_index, slice_index_or}
use Rattle.armus_base.specs.declared.event.Event.{Event}
use Rattle.armus_base.specs.declared.ids.TaskId.{TaskId}
use Rattle.armus_base.specs.Plans.{Plan}
use Rattle.armus_base.specs.States.{State}
use Rattle.pl_core.specs.calls.HighestPhases.{IsPublishedImpeder}
use Rattle.avoider.specs.declared.waiting.Places.{Places}

-- this is one more than the place of the event, and 0 where there is none
abbrev pub IsPlaceOfEvent : List Event → Option Event → ℕ → Type 0
IsPlaceOfEvent events None n = n ≡ 0
IsPlaceOfEvent events (Some e) n = (0 < n) × (n ≤ length events) × ((d : Event) → slice_index_or events (n - 1) d ≡ e)

-- the first so many tasks have the places of the events on which they are published
pub record HavePlaces (s : State) (tasks : ℕ) (events : List Event) (own : List ℕ) : Type 0 where
  pub sized : length own ≡ tasks
  pub each : (u : ℕ) → u < tasks → IsPlaceOfEvent events (s.published u) (slice_index own u)

-- all tasks of the plan have them, and the events are of its phasers
pub record ArePlaces (plan : Plan) (s : State) (p : Places) : Type 0 where
  pub places : HavePlaces s (length plan.parents) p.events.items p.own.items
  pub phasers : All (λ e. e.p.0 < length plan.makers) p.events.items

-- the tasks below a number that are published and impede the event
abbrev pub AreImpeders : State → ℕ → Event → List TaskId → Type 0
AreImpeders s tasks e us = (u : TaskId) → Contains us u ↔ ((u.0 < tasks) × IsPublishedImpeder s e u.0)

-- behind an empty set, for each event those that impede it
pub record AreImpederSets (s : State) (tasks : ℕ) (events : List Event) (sets : List (List TaskId)) : Type 0 where
  pub sized : length sets ≡ length events + 1
  pub first : slice_index_or sets 0 [] ≡ []
  pub each : (k : ℕ) (e : Event) → k < length events → AreImpeders s tasks (slice_index_or events k e) (slice_index_or sets (k + 1) [])
