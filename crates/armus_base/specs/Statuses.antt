-- Statuses of blocked tasks: which of them impede which events.
use Rattle.std.specs.Prelude.{◌≡◌, ◌<◌, List, Contains, Any}
use Rattle.armus_base.specs.declared.event.Event.{Event}
use Rattle.armus_base.specs.declared.status.Status.{Status}

-- the task of the status impedes the event: it is a member of the event's phaser with a phase below the event's
abbrev pub Impedes : Status → Event → Type 0
Impedes s e = Any (λ m. (m.p ≡ e.p) × (m.n < e.n)) s.phases

-- a task of the list awaits the event
abbrev pub IsAwaited : List Status → Event → Type 0
IsAwaited ss e = (s : Status) × Contains ss s × (s.event ≡ e)
