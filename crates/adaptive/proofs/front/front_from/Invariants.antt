use Rattle.std.proofs.Common.{◌-◌, length}
use Rattle.adaptive.specs.inside.Standings.{IsFront}
use Rattle.adaptive.proofs.front.front_from.Given as goal

abbrev pub decreases-pass : goal.decreases-pass
decreases-pass l = length l.standings - l.front

abbrev pub invariant-pass : goal.invariant-pass
invariant-pass l = IsFront l.standings l.remains l.p.0 l.front
