use Rattle.std.proofs.Common.{◌≡◌, ◌<◌, ℕ, List}
use Rattle.std.specs.Prelude.{Contains}
use Rattle.monitor_laws.specs.States.{Waiting}
use Rattle.monitor_reasons.specs.Found.{participant_at}
use Rattle.monitor_reasons.specs.inside.PhaserPlaces.{places_named}
use Rattle.monitor_reasons.proofs.phaser_places.waiting_places.Given as goal

-- so far
abbrev pub invariant-loop-place : goal.invariant-loop-place
invariant-loop-place l = (i : ℕ) (q : List ℕ) (n : ℕ) → i < l.place → (participant_at l.list i).condition ≡ Waiting q n → Contains (places_named l.groups q) i
