use Rattle.std.proofs.Common.{Some, ap, arith, length, set, subst, sym, vec_len, ◌<◌, ◌≡◌}
use Rattle.std.specs.Prelude.{slice_get}
use Rattle.armus_base.specs.Plans.{Forks}
use Rattle.armus_base.specs.States.{IsActive}
use Rattle.pl_core.specs.inside.Changes.{after_fork}
use Rattle.pl_core.specs.calls.Moves.{IsWorldStep}
use Rattle.pl_core.specs.inside.Kept.{KeepsState}
use Rattle.pl_core.specs.calls.Tables.{world_from}
use Rattle.pl_core.specs.calls.Worlds.{WorldValue, action_by_code, state_of}
use Rattle.pl_core.proofs.Bounds.{child_bound}
use Rattle.pl_core.proofs.ChangeKinds.{fork_stepped}
use Rattle.pl_core.proofs.StepKinds.{events_fit, op_fits}
use Rattle.pl_core.proofs.HighestKept.{highest_idle, highest_same}
use Rattle.pl_core.specs.inside.Cursors.{AreAt}
use Rattle.pl_core.proofs.KeptCursors.{forks_and_goes_on}
use Rattle.pl_core.proofs.world.World.fork.Goals as goal

pub task_at-child-requires : goal.task_at-child-requires
task_at-child-requires c =
    let active = subst (λ (w : WorldValue). IsActive (state_of w) c.args.t.0) (sym c.self.view_is) c.requires.active in
    let next = subst (λ (w : WorldValue). action_by_code w c.args.t.0 ≡ Some (Forks c.args.c.0)) (sym c.self.view_is) c.requires.next in
    let bound = child_bound c.self.inside.plan.now c.self.inside.tasks.items c.self.inside.phases c.self.invariant.kept c.args.t.0 c.args.c.0 next in
    subst (λ xs. c.args.c.0 < length xs) (sym c.deref.ensures.value) bound

pub index_mut-requires : goal.index_mut-requires
index_mut-requires c =
    let next = subst (λ (w : WorldValue). action_by_code w c.args.t.0 ≡ Some (Forks c.args.c.0)) (sym c.self.view_is) c.requires.next in
    let bound = child_bound c.self.inside.plan.now c.self.inside.tasks.items c.self.inside.phases c.self.invariant.kept c.args.t.0 c.args.c.0 next in
    let counted : vec_len c.self.inside.tasks ≡ length c.self.inside.tasks.items = c.self.inside.tasks.ok.0 in
    omega arith

pub after_op-requires-clause-fits : goal.after_op-requires-clause-fits
after_op-requires-clause-fits c =
    let read = subst (λ xs. slice_get xs c.args.t.0 ≡ Some c.task_at-task.result) c.deref-2.ensures.value c.task_at-task.ensures in
    let next = subst (λ (w : WorldValue). action_by_code w c.args.t.0 ≡ Some (Forks c.args.c.0)) (sym c.self.view_is) c.requires.next in
    events_fit c.self.inside.plan.now c.self.inside.tasks.items c.self.inside.phases c.self.invariant.kept c.args.t.0 c.task_at-task.result read (Forks c.args.c.0) next

pub after_op-requires-clause-op_fits : goal.after_op-requires-clause-op_fits
after_op-requires-clause-op_fits c =
    let read = subst (λ xs. slice_get xs c.args.t.0 ≡ Some c.task_at-task.result) c.deref-2.ensures.value c.task_at-task.ensures in
    op_fits c.self.inside.plan.now c.self.inside.tasks.items c.self.inside.phases c.self.invariant.kept c.args.t.0 c.task_at-task.result read

pub invariant_of-self : goal.invariant_of-self
invariant_of-self c =
    let read = subst (λ xs. slice_get xs c.args.t.0 ≡ Some c.task_at-task.result) c.deref-2.ensures.value c.task_at-task.ensures in
    let child = subst (λ xs. slice_get xs c.args.c.0 ≡ Some c.task_at-child.result) c.deref.ensures.value c.task_at-child.ensures in
    let active = subst (λ (w : WorldValue). IsActive (state_of w) c.args.t.0) (sym c.self.view_is) c.requires.active in
    let next = subst (λ (w : WorldValue). action_by_code w c.args.t.0 ≡ Some (Forks c.args.c.0)) (sym c.self.view_is) c.requires.next in
    let stepped = fork_stepped c.self.inside.plan.now c.self.inside.tasks.items c.self.inside.phases c.self.invariant.kept c.args.t.0 c.task_at-task.result read
    active c.args.c.0 next c.task_at-child.result child in
    let forked = c.self.inside.tasks.items in
    let phasers = length c.self.inside.plan.now.makers in
    record {
      kept =
          subst (λ k. KeepsState c.self.inside.plan.now (set (set c.self.inside.tasks.items c.args.c.0 k) c.args.t.0 c.after_op.result) c.self.inside.phases)
          (sym c.after_fork.ensures)
          (subst (λ k. KeepsState c.self.inside.plan.now (set (set c.self.inside.tasks.items c.args.c.0 (after_fork c.task_at-child.result)) c.args.t.0 k)
          c.self.inside.phases) (sym c.after_op.ensures) stepped.0);
      cursors =
          subst (AreAt c.self.inside.plan.now (length c.self.inside.plan.now.parents) (set (set c.self.inside.tasks.items c.args.c.0 c.after_fork.result) c.args.t.0 c.after_op.result))
          (sym c.go_on.ensures)
          (forks_and_goes_on c.self.inside.plan.now c.self.inside.tasks.items c.self.inside.cursors.items c.self.invariant.cursors c.self.invariant.kept.one_each c.args.t.0 c.task_at-task.result read c.after_op.result
          (ap (λ v. v.op) c.after_op.ensures) c.args.c.0 c.task_at-child.result c.after_fork.result child (ap (λ v. v.op) c.after_fork.ensures));
      highest =
          highest_idle (set forked c.args.c.0 c.after_fork.result) phasers c.self.inside.highest.items c.args.t.0 c.after_op.result
          (highest_same forked phasers c.self.inside.highest.items c.args.c.0 c.task_at-child.result c.after_fork.result c.self.invariant.highest child
          (ap (λ v. v.event) c.after_fork.ensures) (ap (λ v. v.place) c.after_fork.ensures))
          (ap (λ v. v.event) c.after_op.ensures);
    }

pub returns : goal.returns
returns c =
    let read = subst (λ xs. slice_get xs c.args.t.0 ≡ Some c.task_at-task.result) c.deref-2.ensures.value c.task_at-task.ensures in
    let child = subst (λ xs. slice_get xs c.args.c.0 ≡ Some c.task_at-child.result) c.deref.ensures.value c.task_at-child.ensures in
    let active = subst (λ (w : WorldValue). IsActive (state_of w) c.args.t.0) (sym c.self.view_is) c.requires.active in
    let next = subst (λ (w : WorldValue). action_by_code w c.args.t.0 ≡ Some (Forks c.args.c.0)) (sym c.self.view_is) c.requires.next in
    let stepped = fork_stepped c.self.inside.plan.now c.self.inside.tasks.items c.self.inside.phases c.self.invariant.kept c.args.t.0 c.task_at-task.result read
    active c.args.c.0 next c.task_at-child.result child in
    subst (λ w. IsWorldStep w (world_from c.self.inside.plan.now
    (set (set c.self.inside.tasks.items c.args.c.0 c.after_fork.result) c.args.t.0 c.after_op.result)) c.args.t.0) c.self.view_is
    (subst (λ k. IsWorldStep (world_from c.self.inside.plan.now c.self.inside.tasks.items)
    (world_from c.self.inside.plan.now (set (set c.self.inside.tasks.items c.args.c.0 k) c.args.t.0 c.after_op.result)) c.args.t.0)
    (sym c.after_fork.ensures)
    (subst (λ k. IsWorldStep (world_from c.self.inside.plan.now c.self.inside.tasks.items)
    (world_from c.self.inside.plan.now (set (set c.self.inside.tasks.items c.args.c.0 (after_fork c.task_at-child.result)) c.args.t.0 k)) c.args.t.0)
    (sym c.after_op.ensures) stepped.1))
