use Rattle.std.proofs.Common.{sym, subst}
use Rattle.locked_world.specs.calls.Journals.{IsReplayOfJournal}
use Rattle.locked_world.proofs.Logging.{opening_replayed}
use Rattle.locked_world.proofs.logged.Logged.start.Goals as goal

pub invariant_of-result : goal.invariant_of-result
invariant_of-result g c =
    subst (λ p. IsReplayOfJournal p (record { world = c.in_ok-start.field-0; journal = c.new.result })) c.requires.plan
    (subst (λ j. IsReplayOfJournal c.args.plan.now (record { world = c.in_ok-start.field-0; journal = j })) (sym c.new.ensures.empty)
    (opening_replayed c.args.plan.now c.in_ok-start.field-0 c.tasks-tasks.ensures.checked c.in_ok-start.ensures.opening))
