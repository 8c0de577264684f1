use Rattle.std.proofs.Common.{◌≡◌, ℕ, ◌<◌, false, get_or}
use Rattle.monitor_laws.specs.States.{Participant}
use Rattle.monitor_words.specs.Reasons.{ended_keeps}
use Rattle.monitor_reasons.proofs.reasons.ended_keeper.Given as goal

-- nobody before has ended and keeps it waiting
abbrev pub invariant-loop-at : goal.invariant-loop-at
invariant-loop-at l = (k : ℕ) (d : Participant) → k < l.at → ended_keeps l.f (get_or l.list k d) ≡ false
