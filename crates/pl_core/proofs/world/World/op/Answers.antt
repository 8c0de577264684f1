use Rattle.std.proofs.Common.{◌≡◌, Some, subst}
use Rattle.std.specs.Prelude.{slice_get}
use Rattle.armus_base.specs.Plans.{code_of}
use Rattle.pl_core.specs.Tasks.{IsAtOp}
use Rattle.pl_core.specs.calls.Worlds.{WorldValue, places_of}
use Rattle.pl_core.proofs.AtOp.{at_op}
use Rattle.pl_core.proofs.world.World.op.Goals as goal

pub returns : goal.returns
returns c =
    let read = subst (λ xs. slice_get xs c.args.t.0 ≡ Some c.task_at.result) c.deref.ensures.value c.task_at.ensures in
    record {
      op = subst (λ (w : WorldValue). IsAtOp (code_of w.plan c.args.t.0) (places_of w c.args.t.0).done c.task_at.result.op) c.self.view_is
          (at_op c.self.inside.plan.now c.self.inside.tasks.items c.self.inside.phases c.self.invariant.kept c.args.t.0 c.task_at.result read);
    }
