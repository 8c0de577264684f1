use Rattle.std.proofs.Common.{length}
use Rattle.run_queue.specs.inside.Waking.{GivesTurns}
use Rattle.run_queue.proofs.run_queue.RunQueue.round_ended.Given as goal

abbrev pub invariant-children : goal.invariant-children
invariant-children l = GivesTurns l.initial.self l.self

abbrev pub decreases-children : goal.decreases-children
decreases-children l = length l.self.children.items
