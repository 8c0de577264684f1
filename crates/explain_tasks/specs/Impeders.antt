-- Who keeps a task waiting: the members that impede its event.
use Rattle.std.specs.Prelude.{ℕ, List, [], Option, Some, None, length, nat_lt, if◌then◌else◌}
use Rattle.explain_facts.specs.declared.account.Waiting.{Waiting}
use Rattle.armus_base.specs.declared.event.Event.{Event}
use Rattle.armus_base.specs.Finals.{given_below}
use Rattle.armus_base.specs.States.{Phases}
use Rattle.explain_tasks.specs.declared.impeders.Impeder.{Impeder}
use Rattle.explain_tasks.specs.Facts.{FactsValue, wait_of}

-- task u, if it impedes the event: it has a phase on the event's phaser, and one below the event's
abbrev pub impeder_by : Event → ℕ → Option ℕ → Option Impeder
impeder_by e u None = None
impeder_by e u (Some n) = if nat_lt n e.n then Some (record { t = record { 0 = u }; p = e.p; phase = n }) else None

-- who impedes the event, of the tasks below n, in order of number, each with its phase
abbrev pub impeders_in : ℕ → (ℕ → Phases) → Event → List Impeder
impeders_in n phases e = given_below (λ u. impeder_by e u (phases u e.p.0)) n

-- who impedes the event of a task that waits so, if it waits
abbrev pub impeders_by : ℕ → (ℕ → Phases) → Option Waiting → List Impeder
impeders_by n phases None = []
impeders_by n phases (Some w) = impeders_in n phases w.event

-- the impeders of task t: those of the event that it awaits
abbrev pub impeders_by_facts : FactsValue → (ℕ → Phases) → ℕ → List Impeder
impeders_by_facts f phases t = impeders_by (length f.standings) phases (wait_of f t)
