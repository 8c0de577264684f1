use Rattle.std.proofs.Common.{◌≡◌, ◌<◌, ℕ, List, true, length, take}
use Rattle.std.specs.Prelude.{Contains}
use Rattle.monitor_laws.specs.States.{Waiting}
use Rattle.monitor_laws.specs.Stuck.{has_phase_below}
use Rattle.monitor_words.specs.Stops.{keeps_waiting}
use Rattle.monitor_reasons.specs.Found.{participant_at}
use Rattle.monitor_reasons.specs.inside.Reaching.{HavePassedDistances, IsFilling, HasDistance}
use Rattle.monitor_reasons.proofs.reaching.reach_by.Given as goal

-- those who wait at the phasers so far, above the phase there
abbrev pub invariant-loop-membership : goal.invariant-loop-membership
invariant-loop-membership l = record {
  fills : IsFilling l.fn.search l.search l.d (λ t. keeps_waiting l.w (participant_at l.list t));
  reached : (t : ℕ) (m : List ℕ × ℕ) (n : ℕ) → t < length l.list → (participant_at l.list t).condition ≡ Waiting m.0 n → Contains (take l.membership-index l.w.phases) m →
      has_phase_below l.w m.0 n ≡ true → m.1 < n → HasDistance l.search t;
  passed : HavePassedDistances l.list l.search;
}
