use Rattle.std.proofs.Common.{◌≡◌, ◌<◌, ℕ, get_or}
use Rattle.armus_base.specs.declared.status.Status.{Status}
use Rattle.collector.proofs.naming.event_in.Given as goal

abbrev pub invariant-loop-status : goal.invariant-loop-status
invariant-loop-status l = (k : ℕ) (d : Status) → k < l.status-index → (get_or l.list k d).t.0 ≡ l.t.0 → ⊥
