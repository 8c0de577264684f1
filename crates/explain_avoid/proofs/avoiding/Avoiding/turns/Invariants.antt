use Rattle.std.proofs.Common.{◌≡◌, ◌<◌, ◌≤◌, ◌-◌, ℕ, false, length}
use Rattle.std.specs.Prelude.{option_copied}
use Rattle.pl_core.specs.calls.Stands.{IsEnabled}
use Rattle.run_queue.specs.calls.RunQueues.{IsRunQueue}
use Rattle.explain_facts.specs.calls.Known.{kept_layout}
use Rattle.world_runs.specs.inside.WorldRounds.{LeavesLess}
use Rattle.explain_avoid.specs.inside.SoFar.{NobodyDeadIn, RoundTo}
use Rattle.explain_avoid.proofs.avoiding.Avoiding.turns.Given as goal

abbrev pub invariant-turns : goal.invariant-turns
invariant-turns l =
    record {
      within : l.from ≤ length l.initial.self.world.plan.parents;
      left : LeavesLess NobodyDeadIn l.initial.self.world l.self.world l.moved;
      round : RoundTo (option_copied l.text.file) (kept_layout l.text.facts.now) l.text.facts.now.program.now l.from l.initial.self l.self l.moved;
      quiet : l.moved ≡ false → (u : ℕ) → u < l.from → IsEnabled l.self.world u → ⊥;
      queue : IsRunQueue l.initial.self.world l.self.world l.queue;
    }

abbrev pub decreases-turns : goal.decreases-turns
decreases-turns l = length l.initial.self.world.plan.parents - l.from
