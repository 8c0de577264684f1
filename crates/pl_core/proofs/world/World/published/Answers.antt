use Rattle.std.proofs.Common.{◌≡◌, ◌<◌, ℕ, Option, Some, None, length, refl, subst, sym}
use Rattle.std.specs.Prelude.{IfSome, slice_get}
use Rattle.armus_base.specs.declared.event.Event.{Event}
use Rattle.pl_core.specs.calls.Tables.{world_from}
use Rattle.pl_core.proofs.GoingOn.{phaser_of_waiting}
use Rattle.pl_core.specs.calls.Worlds.{WorldValue, state_of}
use Rattle.pl_core.proofs.Standing.{published_kept, published_none}
use Rattle.pl_core.proofs.world.World.published.Goals as goal

if_some : (o : Option Event) (n : ℕ) → ((e : Event) → o ≡ Some e → e.p.0 < n) → IfSome o (λ e. e.p.0 < n)
if_some None n h = tt
if_some (Some e) n h = h e refl

pub returns-then-task-clause-event : goal.returns-then-task-clause-event
returns-then-task-clause-event c =
    let task = c.task_at-task.result in
    let read = subst (λ xs. slice_get xs c.args.t.0 ≡ Some task) c.deref.ensures.value c.task_at-task.ensures in
    subst (λ (w : WorldValue). None ≡ (state_of w).published c.args.t.0) c.self.view_is
    (sym (published_none c.self.inside.plan.now c.self.inside.tasks.items c.self.inside.phases c.self.invariant.kept c.args.t.0 task read c.if-task.true))

pub returns-else-task-clause-event : goal.returns-else-task-clause-event
returns-else-task-clause-event c =
    let task = c.task_at-task.result in
    let read = subst (λ xs. slice_get xs c.args.t.0 ≡ Some task) c.deref.ensures.value c.task_at-task.ensures in
    subst (λ (w : WorldValue). task.event ≡ (state_of w).published c.args.t.0) c.self.view_is
    (sym (published_kept c.self.inside.plan.now c.self.inside.tasks.items c.self.inside.phases c.self.invariant.kept c.args.t.0 task read c.if-task.false))

pub returns-else-task-clause-phaser : goal.returns-else-task-clause-phaser
returns-else-task-clause-phaser c =
    let task = c.task_at-task.result in
    let read = subst (λ xs. slice_get xs c.args.t.0 ≡ Some task) c.deref.ensures.value c.task_at-task.ensures in
    let kept = published_kept c.self.inside.plan.now c.self.inside.tasks.items c.self.inside.phases c.self.invariant.kept c.args.t.0 task read c.if-task.false in
    let bound = phaser_of_waiting (world_from c.self.inside.plan.now c.self.inside.tasks.items) c.self.invariant.kept.checked c.self.invariant.kept.reachable c.args.t.0 in
    subst (λ (w : WorldValue). IfSome task.event (λ e. e.p.0 < length w.plan.makers)) c.self.view_is
    (subst (λ o. IfSome o (λ e. e.p.0 < length c.self.inside.plan.now.makers)) kept
    (if_some ((state_of (world_from c.self.inside.plan.now c.self.inside.tasks.items)).published c.args.t.0) (length c.self.inside.plan.now.makers) bound))
