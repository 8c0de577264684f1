-- Where in its code a task stands after its first actions.
use Rattle.std.specs.Prelude.{◌≡◌, ℕ, ◌+◌, ◌≤◌, true, List, Some, length, slice_get, if◌then◌else◌}
use Rattle.armus_base.specs.declared.ids.PhaserId.{PhaserId}
use Rattle.armus_base.specs.declared.offset.Offset.{Offset}
use Rattle.armus_base.specs.declared.op.Op.{Op}
use Rattle.armus_base.specs.declared.op.Op.TheVariants.{Await}
use Rattle.pl_core.specs.declared.stop.Stop.{Stop}
use Rattle.pl_core.specs.Tasks.{actions_before}

-- after k actions of this code: all actions of the ops before, and where the op is begun, an await, the first of its two
pub record IsStopOf (ops : List Op) (k : ℕ) (stop : Stop) : Type 0 where
  pub within : stop.op ≤ length ops
  pub events : k ≡ actions_before ops stop.op + (if stop.begun then 1 else 0)
  pub await : stop.begun ≡ true → (p : PhaserId) × (off : Offset) × slice_get ops stop.op ≡ Some (Await p off)
