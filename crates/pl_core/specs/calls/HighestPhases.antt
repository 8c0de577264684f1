-- The highest phases on which tasks were published.
use Rattle.std.specs.Prelude.{◌≡◌, ℕ, ◌<◌, ◌≤◌, Option, None, Some}
use Rattle.armus_base.specs.declared.event.Event.{Event}
use Rattle.armus_base.specs.declared.ids.TaskId.{TaskId}
use Rattle.armus_base.specs.States.{State}

-- task t impedes no event on which a task is published
abbrev pub ImpedesNobody : State → ℕ → Type 0
ImpedesNobody s t = (u m : ℕ) (e : Event) → s.published u ≡ Some e → s.phases t e.p.0 ≡ Some m → e.n ≤ m

-- published task u impedes the event
abbrev pub IsPublishedImpeder : State → Event → ℕ → Type 0
IsPublishedImpeder s e u = (f : Event) × (s.published u ≡ Some f) × (m : ℕ) × (s.phases u e.p.0 ≡ Some m) × (m < e.n)

-- the first published task from this number on that impedes the event, if there is one
abbrev pub IsNextImpeder : State → Event → ℕ → Option TaskId → Type 0
IsNextImpeder s e from None = (u : ℕ) → from ≤ u → IsPublishedImpeder s e u → ⊥
IsNextImpeder s e from (Some u) = (from ≤ u.0) × IsPublishedImpeder s e u.0 × ((v : ℕ) → from ≤ v → v < u.0 → IsPublishedImpeder s e v → ⊥)
