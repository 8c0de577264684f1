-- Laws of agreement: avoided runs and plain runs tell of deadlock alike, a dead task is dead in the final state, and a cycle of waiting tasks is deadlocked.
use Rattle.std.specs.Prelude.{◌≡◌, ℕ, ◌<◌, ◌==◌, ◌||◌, ◌⊎◌, Bool, false, List, [], ◌∷◌, Some}
use Rattle.armus_base.specs.declared.ending.TaskEnd.TheVariants.{Done, Unforked}
use Rattle.armus_base.specs.declared.event.Event.{Event}
use Rattle.armus_base.specs.declared.ids.TaskId.{TaskId}
use Rattle.armus_base.specs.Deadlocks.{IsHeld}
use Rattle.armus_base.specs.Finals.{end_of}
use Rattle.armus_base.specs.States.{State}

-- task u impedes the event on which task t is published
abbrev pub WaitsForTask : State → ℕ → ℕ → Type 0
WaitsForTask s t u = (e : Event) × (n : ℕ) × (s.published t ≡ Some e) × (s.phases u e.p.0 ≡ Some n) × (n < e.n)

-- a task that waits for one that is done or unforked, or for a held one that does so
pub data WaitsForEnded (s : State) : ℕ → Type 0 where
  at_end : {t : ℕ} (u : ℕ) → WaitsForTask s t u → (end_of s u ≡ Done) ⊎ (end_of s u ≡ Unforked) → WaitsForEnded s t
  by_held : {t : ℕ} (u : ℕ) → WaitsForTask s t u → IsHeld s u → WaitsForEnded s u → WaitsForEnded s t

-- the list has the task with this number
abbrev pub has_task : List TaskId → ℕ → Bool
has_task [] n = false
has_task (t ∷ ts) n = (t.0 == n) || has_task ts n
