use Rattle.std.proofs.Common.{◌≡◌, ◌<◌, ℕ, length}
use Rattle.pl_core.specs.inside.Enrolling.{IsEnrolled, IsNoted}
use Rattle.pl_core.proofs.enrolling.phasers_of_tasks.Given as goal

abbrev pub invariant-loop-t : goal.invariant-loop-t
invariant-loop-t l = record {
  sized : length l.rows.items ≡ length l.plan.parents;
  noted : (t c p : ℕ) → t < l.t → c < length l.plan.parents → IsEnrolled l.plan t c p → IsNoted l.rows.items c p;
}
