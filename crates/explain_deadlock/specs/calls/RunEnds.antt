-- Where a run of a text's plan has ended.
use Rattle.std.specs.Prelude.{◌≡◌, ℕ, Some}
use Rattle.armus_base.specs.declared.event.Event.{Event}
use Rattle.armus_base.specs.States.{IsReached, State}

-- no task that waits in this state may go on: the event that it awaits is not reached
abbrev pub WaitersStay : State → Type 0
WaitersStay s = (t : ℕ) (e : Event) → s.published t ≡ Some e → IsReached s e → ⊥
