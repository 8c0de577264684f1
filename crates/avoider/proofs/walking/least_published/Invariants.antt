use Rattle.avoider.specs.calls.Decisions.{supposed_statuses}
use Rattle.avoider.specs.inside.Walks.{IsUnder}
use Rattle.avoider.proofs.walking.least_published.Given as goal

abbrev pub invariant-loop-u : goal.invariant-loop-u
invariant-loop-u l = IsUnder (supposed_statuses l.world l.t.0 l.event) l.u
