use Rattle.std.proofs.Common.{◌∙◌, List, [], ap, arith, length}
use Rattle.std.specs.Prelude.{slice_get, slice_index_or}
use Rattle.std.proofs.lemmas.List.{length-drop}
use Rattle.armus_base.specs.Finals.{list_below}
use Rattle.armus_base.specs.Plans.{code_of}
use Rattle.armus_base.specs.declared.op.Op.{Op}
use Rattle.pl_core.proofs.StepKinds.{few_own_ops}
use Rattle.explain_clock.specs.ClockFacts.{moves_from}
use Rattle.explain_clock.proofs.waits.wait_of.Goals as goal

pub moves_from-requires : goal.moves_from-requires
moves_from-requires c =
    let code = code_of c.args.world.now.plan c.args.t.0 in
    let few = few_own_ops c.args.world.now.plan c.args.t.0 c.plan-plan.ensures.checked in
    let within = c.op-from.ensures.op.within in
    let left = length-drop c.op-from.result code in
    let long = ap length c.in_ok-waits.ensures.left in
    record { few = omega (arith, few, within, left, long) }

pub returns : goal.returns
returns c =
    let code = code_of c.args.world.now.plan c.args.t.0 in
    let from = c.op-from.result in
    let own = slice_index_or c.args.origins.now.waits c.args.t.0 [] in
    record {
      op = from;
      stands = c.op-from.ensures.op;
      statement_is = c.wait.ensures ∙ ap (slice_get own) c.in_ok-waits.ensures.waits;
      pending_is = λ i. list_below (λ p. c.in_ok-waits.ensures.pending p i) ((c.phasers.ensures.counted ∙ ap (λ q. length q.makers) c.plan-plan.ensures.plan) i);
      ahead_is = c.in_ok-ahead.ensures ∙ ap (λ (ops : List Op). moves_from c.args.ops.now from ops) c.in_ok-waits.ensures.left;
    }
