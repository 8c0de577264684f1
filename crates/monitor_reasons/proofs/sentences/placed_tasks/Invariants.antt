use Rattle.std.proofs.Common.{◌≡◌, take}
use Rattle.monitor_reasons.specs.inside.Listings.{shown_places}
use Rattle.monitor_reasons.proofs.sentences.placed_tasks.Given as goal

-- so far
abbrev pub invariant-loop-place : goal.invariant-loop-place
invariant-loop-place l = l.tasks ≡ shown_places l.list (take l.place-index l.places)
