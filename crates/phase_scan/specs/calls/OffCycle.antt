-- What excludes, without a search, that a task lies on a cycle of statuses.
use Rattle.std.specs.Prelude.{◌≡◌, ℕ, ◌⊎◌, List, Option, Some, None, Any}
use Rattle.armus_base.specs.declared.event.Event.{Event}
use Rattle.armus_base.specs.declared.status.Status.{Status}
use Rattle.armus_base.specs.Plans.{Plan}
use Rattle.armus_base.specs.Statuses.{Impedes}
use Rattle.board.specs.calls.Seats.{Known}
use Rattle.board.specs.calls.Views.{task_of}
use Rattle.phase_scan.specs.calls.Supposed.{IsSupposed}

-- by the statuses a task impedes the event
abbrev pub IsImpeded : List Status → Event → Type 0
IsImpeded list e = Any (λ s. Impedes s e) list

-- by the statuses task t impedes an event that a task awaits
abbrev pub ImpedesSome : List Status → ℕ → Type 0
ImpedesSome list t = Any (λ s. (s.t.0 ≡ t) × Any (λ u. Impedes s u.event) list) list

-- by the statuses nobody impedes the event, or task t impedes no event that a task awaits
abbrev pub IsOffCycle : List Status → ℕ → Event → Type 0
IsOffCycle list t e = (IsImpeded list e → ⊥) ⊎ (ImpedesSome list t → ⊥)

-- These are the statuses of a collect as they would be if the seat's own task had published the event. Where they are not given, there are such, and by
-- them the own task lies on no cycle.
abbrev pub SupposesOrExcludes : Plan → List Status → Event → Option (List Status) → Known → Known → Type 0
SupposesOrExcludes plan list event (Some supposed) before now = IsSupposed plan list event supposed before now
SupposesOrExcludes plan list event None before now =
    (supposed : List Status) × IsSupposed plan list event supposed before now × IsOffCycle supposed (task_of before.view) event
