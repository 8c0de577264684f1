use Rattle.std.proofs.Common.{◌≡◌, take}
use Rattle.monitor_rows.specs.Places.{participants_at}
use Rattle.monitor_rows.specs.inside.Lent.{lent_ones}
use Rattle.monitor_rows.proofs.rows.participants_at.Given as goal

-- so far
abbrev pub invariant-loop-place : goal.invariant-loop-place
invariant-loop-place l = lent_ones l.found.items ≡ participants_at l.list (take l.place-index l.places)
