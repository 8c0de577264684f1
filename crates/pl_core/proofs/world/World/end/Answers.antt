use Rattle.std.proofs.Common.{◌≡◌, Some, subst, sym}
use Rattle.std.specs.Prelude.{slice_get}
use Rattle.armus_base.specs.declared.ending.TaskEnd.TheVariants.{Blocked, Done, Refused, Unforked}
use Rattle.armus_base.specs.Finals.{end_of}
use Rattle.pl_core.specs.calls.Worlds.{WorldValue, state_of}
use Rattle.pl_core.proofs.Standing.{end_kept_blocked, end_kept_done, end_kept_refused, end_kept_unforked}
use Rattle.pl_core.proofs.world.World.end.Goals as goal

pub returns-then-task : goal.returns-then-task
returns-then-task c =
    let task = c.task_at-task.result in
    let read = subst (λ xs. slice_get xs c.args.t.0 ≡ Some task) c.deref.ensures.value c.task_at-task.ensures in
    subst (λ (w : WorldValue). Refused c.in-Some.event ≡ end_of (state_of w) c.args.t.0) c.self.view_is
    (sym (end_kept_refused c.self.inside.plan.now c.self.inside.tasks.items c.self.inside.phases c.self.invariant.kept c.args.t.0 task read c.in-Some.event
    c.in-Some.is c.if-task.true))

pub returns-else-task : goal.returns-else-task
returns-else-task c =
    let task = c.task_at-task.result in
    let read = subst (λ xs. slice_get xs c.args.t.0 ≡ Some task) c.deref.ensures.value c.task_at-task.ensures in
    subst (λ (w : WorldValue). Blocked c.in-Some.event ≡ end_of (state_of w) c.args.t.0) c.self.view_is
    (sym (end_kept_blocked c.self.inside.plan.now c.self.inside.tasks.items c.self.inside.phases c.self.invariant.kept c.args.t.0 task read c.in-Some.event
    c.in-Some.is c.if-task.false))

pub returns-then-task-2 : goal.returns-then-task-2
returns-then-task-2 c =
    let task = c.task_at-task.result in
    let read = subst (λ xs. slice_get xs c.args.t.0 ≡ Some task) c.deref.ensures.value c.task_at-task.ensures in
    subst (λ (w : WorldValue). Done ≡ end_of (state_of w) c.args.t.0) c.self.view_is
    (sym (end_kept_done c.self.inside.plan.now c.self.inside.tasks.items c.self.inside.phases c.self.invariant.kept c.args.t.0 task read c.in-None.is c.if-task-2.true))

pub returns-else-task-2 : goal.returns-else-task-2
returns-else-task-2 c =
    let task = c.task_at-task.result in
    let read = subst (λ xs. slice_get xs c.args.t.0 ≡ Some task) c.deref.ensures.value c.task_at-task.ensures in
    subst (λ (w : WorldValue). Unforked ≡ end_of (state_of w) c.args.t.0) c.self.view_is
    (sym (end_kept_unforked c.self.inside.plan.now c.self.inside.tasks.items c.self.inside.phases c.self.invariant.kept c.args.t.0 task read c.in-None.is c.if-task-2.false))
