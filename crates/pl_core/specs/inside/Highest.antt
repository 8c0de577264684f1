-- The highest phases that a world keeps.
use Rattle.std.specs.Prelude.{◌≡◌, ℕ, ◌<◌, ◌≤◌, false, List, Some, length, slice_get, slice_index_or}
use Rattle.armus_base.specs.declared.event.Event.{Event}
use Rattle.pl_core.specs.declared.task.TaskRecord.{TaskRecord}

-- the kept phase of phaser p
abbrev pub highest_at : List ℕ → ℕ → ℕ
highest_at highest p = slice_index_or highest p 0

-- no published task waits for a later phase of a phaser than the kept one
pub record AreHighest (tasks : List TaskRecord) (phasers : ℕ) (highest : List ℕ) : Type 0 where
  pub one_each : length highest ≡ phasers
  pub bound :
      (t : ℕ) (task : TaskRecord) (e : Event) → slice_get tasks t ≡ Some task → task.place.refused ≡ false → task.event ≡ Some e → e.p.0 < phasers →
      e.n ≤ highest_at highest e.p.0
