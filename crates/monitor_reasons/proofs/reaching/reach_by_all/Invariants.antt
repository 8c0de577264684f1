use Rattle.std.proofs.Common.{◌≡◌, ◌<◌, ◌&&◌, ℕ, true, length, take}
use Rattle.std.specs.Prelude.{Contains}
use Rattle.std.specs.List.{list_any}
use Rattle.monitor_words.specs.Stops.{keeps_waiting, stands_for}
use Rattle.monitor_reasons.specs.Found.{participant_at}
use Rattle.monitor_reasons.specs.inside.Reaching.{HavePassedDistances, IsFilling, HasDistance}
use Rattle.monitor_reasons.proofs.reaching.reach_by_all.Given as goal

-- by those at the places so far
abbrev pub invariant-loop-place : goal.invariant-loop-place
invariant-loop-place l = record {
  fills : IsFilling l.fn.search l.search l.d (λ t. list_any (λ w. stands_for w l.u && keeps_waiting w (participant_at l.list t)) l.list);
  reached : (t i : ℕ) → t < length l.list → Contains (take l.place-index l.these) i → i < length l.list → stands_for (participant_at l.list i) l.u ≡ true →
      keeps_waiting (participant_at l.list i) (participant_at l.list t) ≡ true → HasDistance l.search t;
  passed : HavePassedDistances l.list l.search;
}
