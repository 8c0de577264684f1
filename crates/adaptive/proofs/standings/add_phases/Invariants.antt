use Rattle.std.proofs.Common.{◌≡◌, ◌++◌, take}
use Rattle.std.specs.Prelude.{map}
use Rattle.adaptive.specs.inside.Standings.{standing_at}
use Rattle.adaptive.proofs.standings.add_phases.Given as goal

abbrev pub invariant-loop-member : goal.invariant-loop-member
invariant-loop-member l = l.standings.items ≡ l.initial.standings.items ++ map (standing_at l.status) (take l.member-index l.phases)
