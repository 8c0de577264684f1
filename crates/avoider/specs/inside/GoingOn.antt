-- Impeders that may go on.
use Rattle.std.specs.Prelude.{◌≡◌, ◌≢◌, ℕ, ◌<◌, ◌≤◌, Some}
use Rattle.armus_base.specs.declared.event.Event.{Event}
use Rattle.armus_base.specs.States.{State, IsReached, if_published}
use Rattle.pl_core.specs.calls.HighestPhases.{IsPublishedImpeder}

-- were task t published on the event, each published task below n that impedes the event would wait on an event that is reached
abbrev pub ImpedersGoOn : State → ℕ → Event → ℕ → Type 0
ImpedersGoOn s t e n =
    (u : ℕ) → u < n → IsPublishedImpeder (if_published s t e) e u → (f : Event) → (if_published s t e).published u ≡ Some f → IsReached s f

-- task u is not task t, and the event on which it is published, if there is one, is reached
abbrev pub GoesOnBeside : State → ℕ → ℕ → Type 0
GoesOnBeside s t u = (u ≢ t) × ((f : Event) → s.published u ≡ Some f → IsReached s f)

-- so it is of each task from k on and below n
abbrev pub GoOnBesideFrom : State → ℕ → ℕ → ℕ → Type 0
GoOnBesideFrom s t k n = (u : ℕ) → k ≤ u → u < n → GoesOnBeside s t u
