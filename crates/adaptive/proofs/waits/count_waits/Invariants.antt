use Rattle.std.proofs.Common.{◌≡◌, ◌≤◌, ◌*◌, sum_by, take}
use Rattle.armus_base.specs.declared.status.Status.{Status}
use Rattle.adaptive.specs.inside.Waits.{waits_on}
use Rattle.adaptive.proofs.waits.count_waits.Given as goal

abbrev pub invariant-loop-k : goal.invariant-loop-k
invariant-loop-k l = record {
  counted : l.waits ≡ sum_by (λ (s : Status). waits_on l.events.items s.phases) (take l.k l.list);
  few : l.waits ≤ l.k * 2147483648;
}
