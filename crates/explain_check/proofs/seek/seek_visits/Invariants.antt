use Rattle.std.proofs.Common.{[], ◌∷◌, ◌+◌, ◌-◌, ◌*◌, length}
use Rattle.explain_check.specs.inside.Seeks.{whole_body}
use Rattle.explain_check.proofs.SoughtSteps.{GoesOn}
use Rattle.explain_check.proofs.seek.seek_visits.Given as goal

abbrev pub invariant-frames : goal.invariant-frames
invariant-frames l =
    GoesOn l.t.0 l.first l.after (whole_body l.first l.after ∷ []) l.fn.seeker.checker l.fn.seeker.notes l.fn.seeker.last_turns.items l.frames.items l.seeker.checker l.seeker.notes
    l.seeker.last_turns.items

abbrev pub decreases-frames : goal.decreases-frames
decreases-frames l = 3 * (4194305 - l.seeker.checker.counts.visits) + length l.frames.items
