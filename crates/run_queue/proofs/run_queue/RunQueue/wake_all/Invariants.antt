use Rattle.std.proofs.Common.{ℕ, ◌<◌}
use Rattle.pl_core.specs.calls.Worlds.{state_of}
use Rattle.run_queue.specs.inside.Waking.{AreUnreached, Wakes}
use Rattle.run_queue.proofs.run_queue.RunQueue.wake_all.Given as goal

abbrev pub invariant-loop-p : goal.invariant-loop-p
invariant-loop-p l =
    record {
      wakes : Wakes l.initial.self l.self;
      unreached : (p : ℕ) → p < l.p → AreUnreached (state_of l.world) l.self p;
    }
