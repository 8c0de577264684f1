use Rattle.std.proofs.Common.{◌≡◌, ◌<◌, ℕ}
use Rattle.pl_core.specs.calls.Stands.{IsEnabled}
use Rattle.world_runs.proofs.journal.step_first_enabled.Given as goal

abbrev pub invariant-loop-t : goal.invariant-loop-t
invariant-loop-t g l =
    record {
      same : l.logged ≡ l.initial.logged;
      quiet : (u : ℕ) → u < l.t → IsEnabled l.initial.logged.world u → ⊥;
    }
