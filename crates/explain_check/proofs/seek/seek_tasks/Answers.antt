use Rattle.std.proofs.Common.{Ok, ◌+◌, arith, subst}
use Rattle.explain_check.specs.inside.Seeks.{SoughtTask}
use Rattle.explain_check.proofs.SoughtTasks.{all_passed}
use Rattle.explain_check.proofs.seek.seek_tasks.Goals as goal

pub returns-in-Some : goal.returns-in-Some
returns-in-Some c = λ g form now.
    subst (λ o. SoughtTask g (c.loop-t.t + 1) (Ok o) c.seek_task.new.seeker.checker c.seek_task.new.seeker.notes c.seek_task.new.seeker.last_turns.items) c.in-Some.is
    (c.in_ok-stop.ensures g form (c.loop-t.invariant.all g form now))

pub loop-t-preserved : goal.loop-t-preserved
loop-t-preserved c =
    let some = c.loop-t.invariant.some in
    record {
      some = (
        some.0,
        some.1,
        subst (λ o. SoughtTask some.0 (c.loop-t.t + 1) (Ok o) c.seek_task.new.seeker.checker c.seek_task.new.seeker.notes c.seek_task.new.seeker.last_turns.items) c.in_default.is
            (c.in_ok-stop.ensures some.0 some.1 some.2),
      );
      all = λ g form now.
          subst (λ o. SoughtTask g (c.loop-t.t + 1) (Ok o) c.seek_task.new.seeker.checker c.seek_task.new.seeker.notes c.seek_task.new.seeker.last_turns.items) c.in_default.is
          (c.in_ok-stop.ensures g form (c.loop-t.invariant.all g form now));
    }

pub returns : goal.returns
returns c = λ g form now.
    all_passed g c.loop-t.t c.loop-t.seeker.checker c.loop-t.seeker.notes c.loop-t.seeker.last_turns.items (c.loop-t.invariant.all g form now)
    (omega (arith, c.loop-t-test.false, c.tasks.ensures))
