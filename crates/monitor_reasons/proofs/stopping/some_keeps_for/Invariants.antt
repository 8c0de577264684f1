use Rattle.std.proofs.Common.{◌≡◌, ◌<◌, ◌&&◌, ℕ, false, length, take}
use Rattle.std.specs.Prelude.{Contains}
use Rattle.monitor_words.specs.Stops.{keeps_waiting, stands_for}
use Rattle.monitor_reasons.specs.Found.{participant_at}
use Rattle.monitor_reasons.proofs.stopping.some_keeps_for.Given as goal

-- nobody at the places so far does
abbrev pub invariant-loop-place : goal.invariant-loop-place
invariant-loop-place l =
    (i : ℕ) → Contains (take l.place-index l.places) i → i < length l.list →
    (stands_for (participant_at l.list i) (participant_at l.list l.u) && keeps_waiting (participant_at l.list i) (participant_at l.list l.t)) ≡ false
