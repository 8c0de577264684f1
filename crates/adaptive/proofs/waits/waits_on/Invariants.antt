use Rattle.std.proofs.Common.{◌≡◌, ◌≤◌, ◌*◌, take}
use Rattle.adaptive.specs.inside.Waits.{waits_on}
use Rattle.adaptive.proofs.waits.waits_on.Given as goal

abbrev pub invariant-loop-k : goal.invariant-loop-k
invariant-loop-k l = record {
  counted : l.waits ≡ waits_on l.events (take l.k l.phases);
  few : l.waits ≤ l.k * 2147483648;
}
