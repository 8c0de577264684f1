use Rattle.std.proofs.Common.{◌≡◌, ℕ, []}
use Rattle.std.specs.Prelude.{vec_len}
use Rattle.run_queue.specs.calls.RunQueues.{waiters_at}
use Rattle.run_queue.proofs.run_queue.nobody_waits.Given as goal

abbrev pub invariant-loop : goal.invariant-loop
invariant-loop l =
    record {
      sized : vec_len l.waiting ≡ l.counter;
      empty : (p : ℕ) → waiters_at l.waiting.items p ≡ [];
    }
