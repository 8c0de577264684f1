use Rattle.std.proofs.Common.{ℕ, ◌<◌, ◌≤◌, length}
use Rattle.std.specs.Prelude.{slice_index_or}
use Rattle.run_queue.specs.declared.waiter.Waiter.{Waiter}
use Rattle.run_queue.proofs.wait_queue.place_behind.Given as goal

abbrev pub invariant-ahead : goal.invariant-ahead
invariant-ahead l =
    record {
      within : l.at ≤ length l.waiters;
      behind : (k : ℕ) (d : Waiter) → l.at ≤ k → k < length l.waiters → (slice_index_or l.waiters k d).phase ≤ l.phase;
    }

abbrev pub decreases-ahead : goal.decreases-ahead
decreases-ahead l = l.at
