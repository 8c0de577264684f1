use Rattle.std.proofs.Common.{◌≡◌, ◌-◌}
use Rattle.sites.specs.inside.Reading.{items_at, phase_at}
use Rattle.sites.proofs.Loop.{with_front}
use Rattle.sites.proofs.reading.phases_of.Given as goal

abbrev pub invariant-loop : goal.invariant-loop
invariant-loop l = with_front l.phases.items (items_at phase_at (l.count - l.counter) l.rest) ≡ items_at phase_at l.count l.bytes
