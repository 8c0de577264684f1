use Rattle.std.proofs.Common.{◌≡◌, ◌∙◌, Bool, Some, ap, refl, subst, sym, true, false}
use Rattle.std.specs.Prelude.{not, slice_get}
use Rattle.armus_base.specs.States.{IsActive}
use Rattle.pl_core.specs.calls.Tables.{world_from}
use Rattle.pl_core.specs.inside.KeptTasks.{event_in}
use Rattle.pl_core.specs.calls.Worlds.{WorldValue, state_of}
use Rattle.pl_core.proofs.Standing.{active_of_kept, of_task}
use Rattle.pl_core.proofs.world.World.stand_kept.Goals as goal

not_true : (b : Bool) → not b ≡ true → b ≡ false
not_true true e = sym e
not_true false e = refl

not_false : (b : Bool) → not b ≡ false → b ≡ true
not_false true e = refl
not_false false e = sym e

pub returns-then-not-task-clause-stand : goal.returns-then-not-task-clause-stand
returns-then-not-task-clause-stand c =
    let task = c.task_at-task.result in
    let read = subst (λ xs. slice_get xs c.args.t.0 ≡ Some task) c.deref.ensures.value c.task_at-task.ensures in
    let k = of_task c.self.inside.plan.now c.self.inside.tasks.items c.self.inside.phases c.self.invariant.kept c.args.t.0 task read in
    subst (λ (w : WorldValue). (state_of w).forked c.args.t.0 ≡ false) c.self.view_is (sym k.forked ∙ not_true task.forked c.if-not-task.true)

pub stand_before_op-requires-clause-active : goal.stand_before_op-requires-clause-active
stand_before_op-requires-clause-active c =
    let task = c.task_at-task.result in
    let read = subst (λ xs. slice_get xs c.args.t.0 ≡ Some task) c.deref.ensures.value c.task_at-task.ensures in
    let active = active_of_kept c.self.inside.plan.now c.self.inside.tasks.items c.self.inside.phases c.self.invariant.kept c.args.t.0 task read
    (not_false task.forked c.if-not-task.false) c.in-None.is in
    subst (λ (w : WorldValue). IsActive (state_of w) c.args.t.0) c.self.view_is active

pub returns-then-task-clause-stand : goal.returns-then-task-clause-stand
returns-then-task-clause-stand c =
    let task = c.task_at-task.result in
    let read = subst (λ xs. slice_get xs c.args.t.0 ≡ Some task) c.deref.ensures.value c.task_at-task.ensures in
    let k = of_task c.self.inside.plan.now c.self.inside.tasks.items c.self.inside.phases c.self.invariant.kept c.args.t.0 task read in
    subst (λ (w : WorldValue). (state_of w).refused c.args.t.0 ≡ Some c.in-Some.event) c.self.view_is
    (ap (event_in (state_of (world_from c.self.inside.plan.now c.self.inside.tasks.items)) c.args.t.0) (sym c.if-task.true) ∙ sym k.event ∙ c.in-Some.is)

pub returns-else-task-clause-stand : goal.returns-else-task-clause-stand
returns-else-task-clause-stand c =
    let task = c.task_at-task.result in
    let read = subst (λ xs. slice_get xs c.args.t.0 ≡ Some task) c.deref.ensures.value c.task_at-task.ensures in
    let k = of_task c.self.inside.plan.now c.self.inside.tasks.items c.self.inside.phases c.self.invariant.kept c.args.t.0 task read in
    subst (λ (w : WorldValue). (state_of w).published c.args.t.0 ≡ Some c.in-Some.event) c.self.view_is
    (ap (event_in (state_of (world_from c.self.inside.plan.now c.self.inside.tasks.items)) c.args.t.0) (sym c.if-task.false) ∙ sym k.event ∙ c.in-Some.is)
