-- Who is behind an event, by the phases that were found.
use Rattle.std.specs.Prelude.{ℕ, ◌<◌, ◌⊎◌, Option, Some, None}
use Rattle.armus_base.specs.declared.event.Event.{Event}
use Rattle.armus_base.specs.States.{Phases}

-- a phase was found, and it is below that of the event
abbrev pub IsBehind : Option ℕ → Event → Type 0
IsBehind None e = ⊥
IsBehind (Some n) e = n < e.n

-- a task with these phases is behind the event, if there is one
abbrev pub IsBehindGiven : Phases → Option Event → Type 0
IsBehindGiven own None = ⊥
IsBehindGiven own (Some e) = IsBehind (own e.p.0) e

-- A task with these phases is not behind its own event. Nobody is by the column of that event's phaser, or the task is behind none of the events on which
-- the first tasks were found waiting.
pub record ExcludesCycle (events : ℕ → Option Event) (tasks : ℕ) (event : Event) (own : Phases) (column : ℕ → Option ℕ) : Type 0 where
  pub ahead : IsBehind (own event.p.0) event → ⊥
  pub apart :
      ((u : ℕ) → IsBehind (column u) event → ⊥)
      ⊎ ((u : ℕ) → u < tasks → IsBehindGiven own (events u) → ⊥)
