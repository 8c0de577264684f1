-- The next of a task: whom its reader looks at after it.
use Rattle.std.specs.Prelude.{◌≡◌, ℕ, Bool, List, Option, Some, None, slice_get, option_map}
use Rattle.std.specs.List.{find}
use Rattle.explain_facts.specs.declared.account.Forked.{Forked}
use Rattle.armus_base.specs.declared.ids.TaskId.{TaskId}
use Rattle.armus_base.specs.States.{Phases}
use Rattle.explain_tasks.specs.declared.impeders.Impeder.{Impeder}
use Rattle.explain_tasks.specs.declared.situation.Situation.{Situation}
use Rattle.explain_tasks.specs.declared.situation.Situation.TheVariants.{Deadlocked, Held, HasEnded, NotForkedYet, NeverForked}
use Rattle.explain_tasks.specs.Facts.{FactsValue, forking_of, is_deadlocked, stands_held, situation_of}
use Rattle.explain_tasks.specs.Impeders.{impeders_by_facts}

-- the least impeder that stands so; the list has them in order of number
abbrev pub least_that : (Situation → Bool) → FactsValue → List Impeder → Option TaskId
least_that test f impeders = option_map (λ (i : Impeder). i.t) (find (λ (i : Impeder). test (situation_of f i.t.0)) impeders)

-- the first, or else the second
abbrev pub first_or : Option TaskId → Option TaskId → Option TaskId
first_or (Some t) other = Some t
first_or None other = other

-- the next of a task that stands so, has these impeders, and is forked so: of a deadlocked task its least deadlocked impeder, of a held task its least held
-- impeder or else its least, of a task not forked yet its forker, and nobody of others
abbrev pub next_by : FactsValue → List Impeder → Option Forked → Situation → Option TaskId
next_by f impeders fork Deadlocked = least_that is_deadlocked f impeders
next_by f impeders fork Held = first_or (least_that stands_held f impeders) (option_map (λ (i : Impeder). i.t) (slice_get impeders 0))
next_by f impeders fork NotForkedYet = option_map (λ (x : Forked). x.by) fork
next_by f impeders fork HasEnded = None
next_by f impeders fork NeverForked = None

-- the next of task t
abbrev pub next_of : FactsValue → (ℕ → Phases) → ℕ → Option TaskId
next_of f phases t = next_by f (impeders_by_facts f phases t) (forking_of f t) (situation_of f t)

-- u is the next of t
abbrev pub IsNext : FactsValue → (ℕ → Phases) → TaskId → TaskId → Type 0
IsNext f phases t u = next_of f phases t.0 ≡ Some u
