-- The relations of a list of statuses, by the places of tasks and events in two lists.
use Rattle.std.specs.Prelude.{◌≡◌, ◌↔◌, ℕ, ◌^◌, ◌<◌, List, [], Vec, length, map, Contains, All, AllPairs, ◌⊎◌, slice_index, slice_index_or}
use Rattle.std.specs.Global.{Global}
use Rattle.armus_base.specs.declared.ids.TaskId.{TaskId}
use Rattle.armus_base.specs.declared.event.Event.{Event}
use Rattle.armus_base.specs.declared.status.Status.{Status}
use Rattle.armus_base.specs.Statuses.{Impedes, IsAwaited}

-- the tasks, the place of each one's event among the events, the events, and the places of the tasks that impede each event
pub record Deps : Type 0 where
  pub tasks : List TaskId
  pub awaits : List ℕ
  pub events : List Event
  pub impeders : List (List ℕ)

-- the lists that rows of memory are
abbrev pub rows_of : {X : Type 0} → List (Vec X Global) → List (List X)
rows_of rows = map (λ row. row.items) rows

-- the places of the tasks that impede the event at a place
abbrev pub impeders_of : Deps → ℕ → List ℕ
impeders_of d e = slice_index_or d.impeders e []

-- one of the first k tasks awaits the event at i
abbrev pub IsAwaitedBy : Deps → ℕ → ℕ → Type 0
IsAwaitedBy d k i = (m : ℕ) × (m < k) × (slice_index d.awaits m ≡ i)

-- events go by phaser and then by phase
abbrev pub IsEventBefore : Event → Event → Type 0
IsEventBefore a b = (a.p.0 < b.p.0) ⊎ ((a.p.0 ≡ b.p.0) × (a.n < b.n))

-- what the relations keep whatever the statuses: sizes, order, and places that are places
pub record AreRelations (d : Deps) : Type 0 where
  pub awaits_sized : length d.awaits ≡ length d.tasks
  pub impeders_sized : length d.impeders ≡ length d.events
  pub few : length d.tasks < 2 ^ 31
  pub few_events : length d.events < 2 ^ 31
  pub events_inside : All (λ e. e < length d.events) d.awaits
  pub tasks_inside : All (λ row. All (λ t. t < length d.tasks) row) d.impeders
  pub each_awaited : (i : ℕ) → i < length d.events → IsAwaitedBy d (length d.tasks) i
  pub ordered : AllPairs IsEventBefore d.events

-- the relations are those of the statuses
pub record IsDepsOf (ss : List Status) (d : Deps) : Type 0 where
  pub formed : AreRelations d
  pub awaited : (e : Event) → Contains d.events e ↔ IsAwaited ss e
  pub ascend : (i : ℕ) → AllPairs (λ j k. j < k) (impeders_of d i)
  pub tasks : d.tasks ≡ map (λ s. s.t) ss
  pub awaits : (k : ℕ) (s : Status) (e : Event) → k < length ss → slice_index_or d.events (slice_index d.awaits k) e ≡ (slice_index_or ss k s).event
  pub impeders :
      (i k : ℕ) (e : Event) (s : Status) → i < length d.events → k < length ss →
      Contains (impeders_of d i) k ↔ Impedes (slice_index_or ss k s) (slice_index_or d.events i e)
