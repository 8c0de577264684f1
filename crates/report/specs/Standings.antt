-- How the tasks of a final state stand: a blocked task is dead or held.
use Rattle.std.specs.Prelude.{◌≡◌, ℕ, ◌<◌, ◌⊎◌, List, length, slice_index_or}
use Rattle.armus_base.specs.declared.ending.TaskEnd.{TaskEnd}
use Rattle.armus_base.specs.declared.ending.TaskEnd.TheVariants.{Blocked, Done as HasEnded, Refused as WasRefused, Unforked as WasNotForked}
use Rattle.report.specs.declared.standing.Standing.{Standing}
use Rattle.report.specs.declared.standing.Standing.TheVariants.{Done, Dead, Held, Refused, Unforked}

-- how a task stands with this end, where IsDead says whether it is dead
abbrev pub Stands : Type 0 → TaskEnd → Standing → Type 0
Stands IsDead HasEnded s = s ≡ Done
Stands IsDead (Blocked e) s = (IsDead × (s ≡ Dead e)) ⊎ ((IsDead → ⊥) × (s ≡ Held e))
Stands IsDead (WasRefused e) s = s ≡ Refused e
Stands IsDead WasNotForked s = s ≡ Unforked

-- how each task stands, in order of number, where IsDead says which tasks are dead
pub record AreStandings (IsDead : ℕ → Type 0) (ends : List TaskEnd) (standings : List Standing) : Type 0 where
  pub sized : length standings ≡ length ends
  pub each : (t : ℕ) (e : TaskEnd) (s : Standing) → t < length ends → Stands (IsDead t) (slice_index_or ends t e) (slice_index_or standings t s)
