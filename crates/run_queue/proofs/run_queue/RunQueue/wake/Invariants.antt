use Rattle.std.proofs.Common.{length}
use Rattle.run_queue.specs.calls.RunQueues.{waiters_at}
use Rattle.run_queue.specs.inside.Waking.{Wakes}
use Rattle.run_queue.proofs.run_queue.RunQueue.wake.Given as goal

abbrev pub invariant-waiting : goal.invariant-waiting
invariant-waiting l = Wakes l.initial.self l.self

abbrev pub decreases-waiting : goal.decreases-waiting
decreases-waiting l = length (waiters_at l.self.waiting.items l.p.0)
