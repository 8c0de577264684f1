-- What is made of a list of statuses.
use Rattle.std.specs.Prelude.{◌≡◌, ◌↔◌, ◌⊎◌, ℕ, ◌+◌, ◌-◌, ◌<◌, ◌≤◌, List, [], ◌∷◌, ◌++◌, length, All, AllPairs, Contains, slice_index, slice_index_or}
use Rattle.armus_base.specs.declared.event.Event.{Event}
use Rattle.armus_base.specs.declared.status.Member.{Member}
use Rattle.armus_base.specs.declared.status.Status.{Status}
use Rattle.armus_base.specs.Statuses.{Impedes, IsAwaited}
use Rattle.dep_state.specs.calls.Deps.{IsEventBefore}

-- the places below n of the statuses whose tasks impede the event, ascending
pub record IsImpederRow (ss : List Status) (e : Event) (n : ℕ) (row : List ℕ) : Type 0 where
  pub ascends : AllPairs (λ j k. j < k) row
  pub below : All (λ k. k < n) row
  pub exact : (k : ℕ) (s : Status) → k < n → Contains row k ↔ Impedes (slice_index_or ss k s) e

-- an event is before another, or equal to it
abbrev pub NotAfter : Event → Event → Type 0
NotAfter a b = (a.p.0 < b.p.0) ⊎ ((a.p.0 ≡ b.p.0) × (a.n ≤ b.n))

-- no event is before the one ahead of it
abbrev pub NeverFalls : List Event → Type 0
NeverFalls es = (k : ℕ) (d : Event) → k + 1 < length es → NotAfter (slice_index_or es k d) (slice_index_or es (k + 1) d)

-- the event at i is the first, or is after the one ahead of it
abbrev pub IsFresh : List Event → ℕ → Type 0
IsFresh es i = (d : Event) → (i ≡ 0) ⊎ IsEventBefore (slice_index_or es (i - 1) d) (slice_index_or es i d)

-- the same events, ascending without repeats
pub record IsDistinctOf (all es : List Event) : Type 0 where
  pub ordered : AllPairs IsEventBefore es
  pub exact : (e : Event) → Contains es e ↔ Contains all e
  pub few : length es ≤ length all

-- the event is of the phase's phaser, and at a later phase
abbrev pub IsPhaseBelow : Member → Event → Type 0
IsPhaseBelow m e = (m.p ≡ e.p) × (m.n < e.n)

-- the event at a place
abbrev pub nth_event : List Event → ℕ → Event
nth_event es i = slice_index_or es i (record { p = record { 0 = 0 }; n = 0 })

-- the first n events are not after the given one, and the others are
pub record IsFirstAfter (es : List Event) (e : Event) (n : ℕ) : Type 0 where
  pub inside : n ≤ length es
  pub ahead : (j : ℕ) → j < n → NotAfter (nth_event es j) e
  pub from : (j : ℕ) → n ≤ j → j < length es → NotAfter (nth_event es j) e → ⊥

-- each row at an index of which P is true has k as one more element at its end, and each other row is as it was
pub record IsAdded (P : ℕ → Type 0) (k : ℕ) (old new : List (List ℕ)) : Type 0 where
  pub sized : length new ≡ length old
  pub each :
      (i : ℕ) → i < length old →
      (P i × (slice_index_or new i [] ≡ slice_index_or old i [] ++ k ∷ [])) ⊎ ((P i → ⊥) × (slice_index_or new i [] ≡ slice_index_or old i []))

-- the events that the statuses await, ascending without repeats
pub record IsEventsOf (ss : List Status) (es : List Event) : Type 0 where
  pub ordered : AllPairs IsEventBefore es
  pub exact : (e : Event) → Contains es e ↔ IsAwaited ss e
  pub few : length es ≤ length ss

-- the place in a list of events of what each of the first n statuses awaits
pub record IsPlacesOf (ss : List Status) (es : List Event) (n : ℕ) (places : List ℕ) : Type 0 where
  pub sized : length places ≡ n
  pub inside : All (λ i. i < length es) places
  pub there : (k : ℕ) (s : Status) (e : Event) → k < n → slice_index_or es (slice_index places k) e ≡ (slice_index_or ss k s).event

-- for each of the first n events the places of the statuses whose tasks impede it
pub record IsImpedersOf (ss : List Status) (es : List Event) (n : ℕ) (rows : List (List ℕ)) : Type 0 where
  pub sized : length rows ≡ n
  pub each : (i : ℕ) (e : Event) → i < n → IsImpederRow ss (slice_index_or es i e) (length ss) (slice_index_or rows i [])
