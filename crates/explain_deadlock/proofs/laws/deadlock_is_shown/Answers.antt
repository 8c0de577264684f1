use Rattle.explain_deadlock.proofs.DeadlockShown.{deadlock_is_reported, shown_are_dead, shown_are_shortest}
use Rattle.explain_deadlock.proofs.laws.deadlock_is_shown.Goals as goal

pub returns : goal.returns
returns c = record { reported = deadlock_is_reported; dead = shown_are_dead; shortest = shown_are_shortest }
