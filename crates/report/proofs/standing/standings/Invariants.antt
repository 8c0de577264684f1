use Rattle.report.specs.inside.Merging.{IsIn}
use Rattle.report.proofs.Passing.{HasPassed, AreFirst}
use Rattle.report.proofs.standing.standings.Given as goal

abbrev pub invariant-loop-t : goal.invariant-loop-t
invariant-loop-t l = record { passed : HasPassed l.dead l.at l.t; first : AreFirst (IsIn l.dead) l.ends l.t l.all.items }
