use Rattle.std.proofs.Common.{Some, ap, length, set, subst, sym, ◌≡◌}
use Rattle.std.specs.Prelude.{slice_get}
use Rattle.armus_base.specs.States.{IsActive}
use Rattle.pl_core.specs.calls.Moves.{IsWorldStep}
use Rattle.pl_core.specs.inside.Ops.{action_of}
use Rattle.pl_core.specs.inside.Kept.{KeepsState}
use Rattle.pl_core.specs.calls.Tables.{world_from}
use Rattle.pl_core.specs.calls.Worlds.{WorldValue, action_by_code, state_of}
use Rattle.pl_core.proofs.ChangeKinds.{change_stepped, room}
use Rattle.pl_core.proofs.StepKinds.{events_fit, op_fits}
use Rattle.pl_core.proofs.HighestKept.{highest_idle}
use Rattle.pl_core.specs.inside.Cursors.{AreAt}
use Rattle.pl_core.proofs.KeptCursors.{goes_on}
use Rattle.pl_core.proofs.world.World.change.Goals as goal

pub move_phases-requires-clause-room : goal.move_phases-requires-clause-room
move_phases-requires-clause-room c =
    let active = subst (λ (w : WorldValue). IsActive (state_of w) c.args.t.0) (sym c.self.view_is) c.requires.active in
    let next = subst (λ (w : WorldValue). action_by_code w c.args.t.0 ≡ Some (action_of c.args.op)) (sym c.self.view_is) c.requires.next in
    let read = subst (λ xs. slice_get xs c.args.t.0 ≡ Some c.task_at-task.result) c.deref.ensures.value c.task_at-task.ensures in
    room c.self.inside.plan.now c.self.inside.tasks.items c.self.inside.phases c.self.invariant.kept c.args.t.0 c.task_at-task.result read active c.args.op next c.requires.kind

pub after_op-requires-clause-fits : goal.after_op-requires-clause-fits
after_op-requires-clause-fits c =
    let read = subst (λ xs. slice_get xs c.args.t.0 ≡ Some c.task_at-task.result) c.deref.ensures.value c.task_at-task.ensures in
    let next = subst (λ (w : WorldValue). action_by_code w c.args.t.0 ≡ Some (action_of c.args.op)) (sym c.self.view_is) c.requires.next in
    events_fit c.self.inside.plan.now c.self.inside.tasks.items c.self.inside.phases c.self.invariant.kept c.args.t.0 c.task_at-task.result read (action_of c.args.op) next

pub after_op-requires-clause-op_fits : goal.after_op-requires-clause-op_fits
after_op-requires-clause-op_fits c =
    let read = subst (λ xs. slice_get xs c.args.t.0 ≡ Some c.task_at-task.result) c.deref.ensures.value c.task_at-task.ensures in
    op_fits c.self.inside.plan.now c.self.inside.tasks.items c.self.inside.phases c.self.invariant.kept c.args.t.0 c.task_at-task.result read

pub invariant_of-self : goal.invariant_of-self
invariant_of-self c =
    let read = subst (λ xs. slice_get xs c.args.t.0 ≡ Some c.task_at-task.result) c.deref.ensures.value c.task_at-task.ensures in
    let active = subst (λ (w : WorldValue). IsActive (state_of w) c.args.t.0) (sym c.self.view_is) c.requires.active in
    let next = subst (λ (w : WorldValue). action_by_code w c.args.t.0 ≡ Some (action_of c.args.op)) (sym c.self.view_is) c.requires.next in
    let stepped = change_stepped c.self.inside.plan.now c.self.inside.tasks.items c.self.inside.phases c.self.invariant.kept c.args.t.0 c.task_at-task.result
    read active c.args.op next c.requires.kind c.move_phases.new.phases c.move_phases.ensures.cells c.move_phases.ensures.phasers
    c.move_phases.ensures.moved in
    record {
      kept = subst (λ task. KeepsState c.self.inside.plan.now (set c.self.inside.tasks.items c.args.t.0 task) c.move_phases.new.phases) (sym c.after_op.ensures) stepped.0;
      cursors =
          subst (AreAt c.self.inside.plan.now (length c.self.inside.plan.now.parents) (set c.self.inside.tasks.items c.args.t.0 c.after_op.result)) (sym c.go_on.ensures)
          (goes_on c.self.inside.plan.now c.self.inside.tasks.items c.self.inside.cursors.items c.self.invariant.cursors c.self.invariant.kept.one_each c.args.t.0 c.task_at-task.result read c.after_op.result
          (ap (λ v. v.op) c.after_op.ensures));
      highest =
          highest_idle c.self.inside.tasks.items (length c.self.inside.plan.now.makers) c.self.inside.highest.items c.args.t.0 c.after_op.result c.self.invariant.highest
          (ap (λ v. v.event) c.after_op.ensures);
    }

pub returns : goal.returns
returns c =
    let read = subst (λ xs. slice_get xs c.args.t.0 ≡ Some c.task_at-task.result) c.deref.ensures.value c.task_at-task.ensures in
    let active = subst (λ (w : WorldValue). IsActive (state_of w) c.args.t.0) (sym c.self.view_is) c.requires.active in
    let next = subst (λ (w : WorldValue). action_by_code w c.args.t.0 ≡ Some (action_of c.args.op)) (sym c.self.view_is) c.requires.next in
    let stepped = change_stepped c.self.inside.plan.now c.self.inside.tasks.items c.self.inside.phases c.self.invariant.kept c.args.t.0 c.task_at-task.result
    read active c.args.op next c.requires.kind c.move_phases.new.phases c.move_phases.ensures.cells c.move_phases.ensures.phasers
    c.move_phases.ensures.moved in
    subst (λ w. IsWorldStep w (world_from c.self.inside.plan.now (set c.self.inside.tasks.items c.args.t.0 c.after_op.result)) c.args.t.0) c.self.view_is
    (subst (λ task. IsWorldStep (world_from c.self.inside.plan.now c.self.inside.tasks.items)
    (world_from c.self.inside.plan.now (set c.self.inside.tasks.items c.args.t.0 task)) c.args.t.0) (sym c.after_op.ensures) stepped.1)
