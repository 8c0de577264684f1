use Rattle.std.proofs.Common.{◌≡◌, ◌∙◌, None, ap, sym}
use Rattle.std.specs.Prelude.{slice_get}
use Rattle.armus_base.specs.Plans.{Plan, code_of}
use Rattle.armus_base.proofs.Lists.{some_at}
use Rattle.explain_steps.proofs.Ready.{ready_kind, ready_next, ready_within}
use Rattle.explain_steps.proofs.changes.ready_op.Goals as goal

pub unreachable-requires : goal.unreachable-requires
unreachable-requires c =
    let within = ready_within c.args.world.now c.plan.ensures.checked c.plan.ensures.reachable c.args.t.0 c.args.i c.requires.at c.requires.ready in
    let (o, some) = some_at (code_of c.args.world.now.plan c.args.t.0) c.args.i within in
    let none : slice_get (code_of c.args.world.now.plan c.args.t.0) c.args.i ≡ None =
    ap (λ (q : Plan). slice_get (code_of q c.args.t.0) c.args.i) (sym c.plan.ensures.plan) ∙ sym c.op_at.ensures ∙ c.in-None.is in
    cc

pub returns : goal.returns
returns c =
    let here = ap (λ (q : Plan). slice_get (code_of q c.args.t.0) c.args.i) (sym c.plan.ensures.plan) ∙ sym c.op_at.ensures ∙ c.in-Some.is in
    record {
      next = ready_next c.args.world.now c.plan.ensures.checked c.plan.ensures.reachable c.args.t.0 c.args.i c.requires.at c.requires.ready c.in-Some.op here;
      kind = ready_kind c.args.world.now c.plan.ensures.checked c.plan.ensures.reachable c.args.t.0 c.args.i c.requires.at c.requires.ready c.in-Some.op here;
    }
