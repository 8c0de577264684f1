use Rattle.std.proofs.Common.{subst}
use Rattle.run_queue.specs.calls.StepKinds.{IsOfKind}
use Rattle.run_queue.proofs.Queued.{awaits_on, changes_on, forks_on, passes_on}
use Rattle.run_queue.proofs.run_queue.RunQueue.step_made.Goals as goal

pub returns-in_ok-push-in-Forks : goal.returns-in_ok-push-in-Forks
returns-in_ok-push-in-Forks c = λ first old moved kind ready h.
    forks_on first old c.args.world.now c.args.t.0 c.in-Forks.c moved (subst (IsOfKind old c.args.t.0) c.in-Forks.is kind) c.args.self.now c.push.new.self
    c.in_ok-push-in-Forks.ensures.items ready h

pub returns-in-Changes : goal.returns-in-Changes
returns-in-Changes c = λ first old moved kind ready h.
    changes_on first old c.args.world.now c.args.t.0 c.in-Changes.p.0 moved (subst (IsOfKind old c.args.t.0) c.in-Changes.is kind) c.args.self.now c.wake_at.new.self ready h
    c.wake_at.ensures.wakes c.wake_at.ensures.unreached

pub returns-in-Awaits : goal.returns-in-Awaits
returns-in-Awaits c = λ first old moved kind ready h.
    awaits_on first old c.args.world.now c.args.t.0 moved (subst (IsOfKind old c.args.t.0) c.in-Awaits.is kind) c.args.self.now c.wake_after.new.self ready h
    c.wake_after.ensures.wakes c.wake_after.ensures.unreached

pub returns-in-Passes : goal.returns-in-Passes
returns-in-Passes c = λ first old moved kind ready h.
    let passes = subst (IsOfKind old c.args.t.0) c.in-Passes.is kind in
    passes_on first old c.args.world.now c.args.t.0 passes.0 moved passes.1 c.args.self.now ready h
