use Rattle.std.proofs.Common.{◌≡◌, ◌<◌, ℕ, true, length, take}
use Rattle.std.specs.Prelude.{Contains}
use Rattle.monitor_words.specs.Stops.{keeps_waiting}
use Rattle.monitor_reasons.specs.Found.{participant_at}
use Rattle.monitor_reasons.specs.inside.Reaching.{IsFilling, HasDistance}
use Rattle.monitor_reasons.proofs.reaching.reach_all.Given as goal

-- those at the places so far
abbrev pub invariant-loop-place : goal.invariant-loop-place
invariant-loop-place l = record {
  fills : IsFilling l.fn.search l.search l.d (λ t. keeps_waiting l.w (participant_at l.list t));
  reached : (t : ℕ) → Contains (take l.place-index l.places) t → t < length l.list → keeps_waiting l.w (participant_at l.list t) ≡ true → HasDistance l.search t;
  passed : l.search.passed ≡ l.fn.search.passed;
}
