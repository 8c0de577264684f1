use Rattle.std.proofs.Common.{◌≡◌, ◌-◌}
use Rattle.sites.specs.inside.Reading.{items_at, status_at}
use Rattle.sites.proofs.Loop.{with_front}
use Rattle.sites.proofs.reading.statuses_of.Given as goal

abbrev pub invariant-loop : goal.invariant-loop
invariant-loop l = with_front l.statuses.items (items_at status_at (l.count - l.counter) l.rest) ≡ items_at status_at l.count l.bytes
