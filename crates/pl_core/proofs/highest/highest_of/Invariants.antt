use Rattle.std.proofs.Common.{◌≡◌, ◌<◌, ◌≤◌, ℕ, false, Some, length}
use Rattle.std.specs.Prelude.{slice_get}
use Rattle.armus_base.specs.declared.event.Event.{Event}
use Rattle.pl_core.specs.declared.task.TaskRecord.{TaskRecord}
use Rattle.pl_core.specs.inside.Highest.{highest_at}
use Rattle.pl_core.proofs.highest.highest_of.Given as goal

abbrev pub invariant-loop-k : goal.invariant-loop-k
invariant-loop-k l =
    record {
      len : length l.highest.items ≡ l.phasers;
      bound : (t : ℕ) (task : TaskRecord) (e : Event) → t < l.k → slice_get l.tasks t ≡ Some task → task.place.refused ≡ false → task.event ≡ Some e → e.p.0 < l.phasers →
          e.n ≤ highest_at l.highest.items e.p.0;
    }
