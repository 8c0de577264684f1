use Rattle.std.proofs.Common.{◌≡◌, ℕ, ◌<◌, false, get_or}
use Rattle.monitor_laws.specs.States.{Participant, is_there_as}
use Rattle.monitor_messages.proofs.newly.place_there.Given as goal

-- nobody before is there with the name
abbrev pub invariant-loop-at : goal.invariant-loop-at
invariant-loop-at l = (k : ℕ) (d : Participant) → k < l.at → is_there_as l.t (get_or l.list k d) ≡ false
