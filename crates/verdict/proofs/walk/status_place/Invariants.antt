use Rattle.std.proofs.Common.{◌≡◌, ℕ, ◌-◌, ◌<◌, length, get_or}
use Rattle.armus_base.specs.declared.status.Status.{Status}
use Rattle.verdict.proofs.walk.status_place.Given as goal

abbrev pub invariant-walk : goal.invariant-walk
invariant-walk l = (k : ℕ) (s : Status) → k < l.at → (get_or l.list k s).t ≡ l.t → ⊥

abbrev pub decreases-walk : goal.decreases-walk
decreases-walk l = length l.list - l.at
