use Rattle.std.proofs.Common.{◌≡◌, ◌∷◌, ◌∙◌, List, ap, arith, drop, subst, sym}
use Rattle.armus_base.specs.declared.op.Op.{Op}
use Rattle.armus_base.proofs.Lists.{first_and_rest}
use Rattle.pl_core.proofs.KeptCursors.{gone_on}
use Rattle.world_runs.specs.inside.LiveTasks.{Live}
use Rattle.world_runs.proofs.Codes.{few_before, next_behind, next_there}
use Rattle.world_runs.proofs.live_task.LiveTask.do_op.Goals as goal

pub overflow_add-self : goal.overflow_add-self
overflow_add-self g c =
    let same : c.self-2.inside.cursor ≡ c.self.inside.cursor = ap (λ (w : Live). w.left)
    (c.self-2.view_is ∙ c.end.ensures.same ∙ c.begin.ensures.same ∙ sym c.self.view_is) in
    let there = subst (λ (ops : List Op). ops ≡ c.in-Some.op ∷ drop 1 ops) (sym same)
    (first_and_rest c.self.inside.cursor c.in-Some.op (sym c.peek.ensures.next ∙ c.in-Some.is)) in
    let i = c.self-2.invariant in
    let l = few_before g.N.PlanName.plan c.self-2.inside.t.0 c.self-2.inside.op c.in-Some.op i.checked
    (next_there g.N.PlanName.plan c.self-2.inside.t.0 c.self-2.inside.op c.self-2.inside.cursor (drop 1 c.self-2.inside.cursor) c.in-Some.op i.left_is there) in
    omega arith

pub invariant_of-self : goal.invariant_of-self
invariant_of-self g c =
    let same : c.self-2.inside.cursor ≡ c.self.inside.cursor = ap (λ (w : Live). w.left)
    (c.self-2.view_is ∙ c.end.ensures.same ∙ c.begin.ensures.same ∙ sym c.self.view_is) in
    let there = subst (λ (ops : List Op). ops ≡ c.in-Some.op ∷ drop 1 ops) (sym same)
    (first_and_rest c.self.inside.cursor c.in-Some.op (sym c.peek.ensures.next ∙ c.in-Some.is)) in
    let rest = gone_on c.next-op.result c.self-2.inside.cursor c.next-op.new.self c.next-op.ensures.some c.next-op.ensures.none in
    let i = c.self-2.invariant in
    record {
      checked = i.checked;
      task = i.task;
      left_is = next_behind g.N.PlanName.plan c.self-2.inside.t.0 c.self-2.inside.op c.self-2.inside.cursor c.next-op.new.self c.in-Some.op i.left_is
          (there ∙ ap (λ (ops : List Op). c.in-Some.op ∷ ops) (sym rest));
      behind_is = i.behind_is;
    }
