use Rattle.avoider.proofs.Dropping.{IsDropping}
use Rattle.avoider.proofs.concluding.drop_all.Given as goal

abbrev pub invariant-loop-q : goal.invariant-loop-q
invariant-loop-q l = IsDropping l.board l.initial.seat l.q l.seat
