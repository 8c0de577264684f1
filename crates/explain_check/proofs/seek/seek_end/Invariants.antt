use Rattle.explain_check.proofs.SoughtEnds.{GoesAway}
use Rattle.explain_check.proofs.seek.seek_end.Given as goal

abbrev pub invariant-loop-p : goal.invariant-loop-p
invariant-loop-p l =
    GoesAway l.t.0 l.first l.after l.fn.seeker.checker l.fn.seeker.notes l.fn.seeker.last_turns.items l.p l.seeker.checker l.seeker.notes l.seeker.last_turns.items
