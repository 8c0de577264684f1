use Rattle.std.proofs.Common.{◌≡◌, ◌<◌, ◌==◌, ℕ, true}
use Rattle.std.specs.Prelude.{Contains}
use Rattle.std.specs.List.{list_any}
use Rattle.monitor_words.specs.Stops.{lone_task}
use Rattle.monitor_reasons.specs.Found.{participant_at}
use Rattle.monitor_reasons.specs.inside.PhaserPlaces.{places_numbered}
use Rattle.monitor_reasons.proofs.phaser_places.wildcard_places.Given as goal

-- so far
abbrev pub invariant-loop-place : goal.invariant-loop-place
invariant-loop-place l = (i k : ℕ) → i < l.place → list_any (λ j. j == k) (lone_task (participant_at l.list i).condition) ≡ true → Contains (places_numbered l.groups k) i
