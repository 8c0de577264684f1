use Rattle.std.proofs.Common.{ℕ, ◌<◌, ◌≤◌, ◌-◌, length}
use Rattle.run_queue.specs.inside.ReadyTasks.{IsSet}
use Rattle.run_queue.proofs.ready.ReadyTasks.next.Given as goal

abbrev pub invariant-search : goal.invariant-search
invariant-search l =
    record {
      on : l.from ≤ l.at;
      clear : (t : ℕ) → l.from ≤ t → t < l.at → IsSet l.self.flags.items t → ⊥;
    }

abbrev pub decreases-search : goal.decreases-search
decreases-search l = length l.self.flags.items - l.at
