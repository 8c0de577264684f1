use Rattle.std.proofs.Common.{Some, ap, length, set, subst, sym, ◌≡◌}
use Rattle.std.specs.Prelude.{slice_get}
use Rattle.armus_base.specs.States.{IsReached}
use Rattle.pl_core.specs.calls.Moves.{IsWorldStep}
use Rattle.pl_core.specs.inside.Kept.{KeepsState}
use Rattle.pl_core.specs.calls.Tables.{world_from}
use Rattle.pl_core.specs.calls.Worlds.{WorldValue, state_of}
use Rattle.pl_core.proofs.StepKinds.{events_fit_pass, op_fits, pass_stepped}
use Rattle.pl_core.proofs.HighestKept.{highest_idle}
use Rattle.pl_core.specs.inside.Cursors.{AreAt}
use Rattle.pl_core.proofs.KeptCursors.{goes_on}
use Rattle.pl_core.proofs.world.World.pass.Goals as goal

pub after_op-requires-clause-fits : goal.after_op-requires-clause-fits
after_op-requires-clause-fits c =
    let read = subst (λ xs. slice_get xs c.args.t.0 ≡ Some c.task_at.result) c.deref.ensures.value c.task_at.ensures in
    let waits = subst (λ (w : WorldValue). (state_of w).published c.args.t.0 ≡ Some c.args.event) (sym c.self.view_is) c.requires.waits in
    let reached = subst (λ (w : WorldValue). IsReached (state_of w) c.args.event) (sym c.self.view_is) c.requires.reached in
    events_fit_pass c.self.inside.plan.now c.self.inside.tasks.items c.self.inside.phases c.self.invariant.kept c.args.t.0 c.task_at.result read c.args.event waits reached

pub after_op-requires-clause-op_fits : goal.after_op-requires-clause-op_fits
after_op-requires-clause-op_fits c =
    let read = subst (λ xs. slice_get xs c.args.t.0 ≡ Some c.task_at.result) c.deref.ensures.value c.task_at.ensures in
    op_fits c.self.inside.plan.now c.self.inside.tasks.items c.self.inside.phases c.self.invariant.kept c.args.t.0 c.task_at.result read

pub invariant_of-self : goal.invariant_of-self
invariant_of-self c =
    let read = subst (λ xs. slice_get xs c.args.t.0 ≡ Some c.task_at.result) c.deref.ensures.value c.task_at.ensures in
    let waits = subst (λ (w : WorldValue). (state_of w).published c.args.t.0 ≡ Some c.args.event) (sym c.self.view_is) c.requires.waits in
    let reached = subst (λ (w : WorldValue). IsReached (state_of w) c.args.event) (sym c.self.view_is) c.requires.reached in
    let stepped = pass_stepped c.self.inside.plan.now c.self.inside.tasks.items c.self.inside.phases c.self.invariant.kept c.args.t.0 c.task_at.result read
    c.args.event waits reached in
    record {
      kept = subst (λ task. KeepsState c.self.inside.plan.now (set c.self.inside.tasks.items c.args.t.0 task) c.self.inside.phases) (sym c.after_op.ensures) stepped.0;
      cursors =
          subst (AreAt c.self.inside.plan.now (length c.self.inside.plan.now.parents) (set c.self.inside.tasks.items c.args.t.0 c.after_op.result)) (sym c.go_on.ensures)
          (goes_on c.self.inside.plan.now c.self.inside.tasks.items c.self.inside.cursors.items c.self.invariant.cursors c.self.invariant.kept.one_each c.args.t.0 c.task_at.result read c.after_op.result
          (ap (λ v. v.op) c.after_op.ensures));
      highest =
          highest_idle c.self.inside.tasks.items (length c.self.inside.plan.now.makers) c.self.inside.highest.items c.args.t.0 c.after_op.result c.self.invariant.highest
          (ap (λ v. v.event) c.after_op.ensures);
    }

pub returns : goal.returns
returns c =
    let read = subst (λ xs. slice_get xs c.args.t.0 ≡ Some c.task_at.result) c.deref.ensures.value c.task_at.ensures in
    let waits = subst (λ (w : WorldValue). (state_of w).published c.args.t.0 ≡ Some c.args.event) (sym c.self.view_is) c.requires.waits in
    let reached = subst (λ (w : WorldValue). IsReached (state_of w) c.args.event) (sym c.self.view_is) c.requires.reached in
    let stepped = pass_stepped c.self.inside.plan.now c.self.inside.tasks.items c.self.inside.phases c.self.invariant.kept c.args.t.0 c.task_at.result read
    c.args.event waits reached in
    subst (λ w. IsWorldStep w (world_from c.self.inside.plan.now (set c.self.inside.tasks.items c.args.t.0 c.after_op.result)) c.args.t.0) c.self.view_is
    (subst (λ task. IsWorldStep (world_from c.self.inside.plan.now c.self.inside.tasks.items)
    (world_from c.self.inside.plan.now (set c.self.inside.tasks.items c.args.t.0 task)) c.args.t.0) (sym c.after_op.ensures) stepped.1)
