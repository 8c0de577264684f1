-- How many pairs the wait-for graph has, counted by awaited events.
use Rattle.std.specs.Prelude.{ℕ, ◌<◌, ◌≤◌, ◌==◌, ◌&&◌, Bool, List, count_by, length, map, nat_lt, slice_index_or, sum_by}
use Rattle.std.specs.List.Sorted.{IsPermutation}
use Rattle.armus_base.specs.declared.event.Event.{Event}
use Rattle.armus_base.specs.declared.status.Member.{Member}
use Rattle.armus_base.specs.declared.status.Status.{Status}
use Rattle.dep_state.specs.inside.Made.{NeverFalls, NotAfter}

-- the event is of the member's phaser, and at a later phase
abbrev pub is_later : Member → Event → Bool
is_later m e = (e.p.0 == m.p.0) && nat_lt m.n e.n

-- how many of the events a task with these phases impedes
abbrev pub waits_on : List Event → List Member → ℕ
waits_on events = sum_by (λ m. count_by (is_later m) events)

-- the events of the statuses, one for each, in order
pub record AreAwaited (ss : List Status) (events : List Event) : Type 0 where
  pub ordered : NeverFalls events
  pub same : IsPermutation (map (λ s. s.event) ss) events

-- ahead of this index each event is before the member's phase or at it, and from it on none is
pub record IsFirstPast (events : List Event) (m : Member) (i : ℕ) : Type 0 where
  pub inside : i ≤ length events
  pub ahead : (k : ℕ) (d : Event) → k < i → NotAfter (slice_index_or events k d) (record { p = m.p; n = m.n })
  pub from : (k : ℕ) (d : Event) → i ≤ k → k < length events → NotAfter (slice_index_or events k d) (record { p = m.p; n = m.n }) → ⊥

-- ahead of this index no event is of a later phaser than p, and from it on each is
pub record IsFirstOnLater (events : List Event) (p i : ℕ) : Type 0 where
  pub inside : i ≤ length events
  pub ahead : (k : ℕ) (d : Event) → k < i → (slice_index_or events k d).p.0 ≤ p
  pub from : (k : ℕ) (d : Event) → i ≤ k → k < length events → p < (slice_index_or events k d).p.0
