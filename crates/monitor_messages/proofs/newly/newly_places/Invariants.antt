use Rattle.std.proofs.Common.{◌≡◌, ◌<◌, length, map, take}
use Rattle.std.specs.Prelude.{All, filter}
use Rattle.monitor_search.specs.Known.{has_stuck_number}
use Rattle.monitor_reasons.specs.Found.{participant_at}
use Rattle.monitor_messages.specs.inside.Newly.{is_newly_stuck}
use Rattle.monitor_messages.proofs.newly.newly_places.Given as goal

-- so far
abbrev pub invariant-loop-at : goal.invariant-loop-at
invariant-loop-at l = record {
  are : map (participant_at l.list) l.places.items ≡ filter (is_newly_stuck (has_stuck_number l.was) (has_stuck_number l.stuck)) (take l.at l.list);
  within : All (λ i. i < length l.list) l.places.items;
}
