use Rattle.adaptive.specs.inside.Remaining.{IsRemainingOf}
use Rattle.adaptive.proofs.dead.take_columns.Given as goal

abbrev pub invariant-loop : goal.invariant-loop
invariant-loop l = IsRemainingOf l.list l.remaining
