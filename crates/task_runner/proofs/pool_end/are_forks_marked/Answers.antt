use Rattle.std.proofs.Common.{◌≡◌, ◌∙◌, ◌-◌, ◌∷◌, List, sym, ap, subst}
use Rattle.armus_base.specs.declared.op.Op.{Op}
use Rattle.task_runner.specs.inside.Pooled.{AreForksMarked}
use Rattle.task_runner.proofs.ForksInHand.{no_code, none_done, one_op}
use Rattle.task_runner.proofs.pool_end.are_forks_marked.Goals as goal

pub ops-preserved : goal.ops-preserved
ops-preserved c = λ rest.
    let left = c.ops.left in
    let next : c.ops.cursor ≡ c.in-Some.op ∷ c.next.new.self = c.in-Some.ensures.some in
    c.ops.invariant
    (subst (λ (ops : List Op). AreForksMarked ops left c.args.marks.now) (sym next)
    (one_op c.in-Some.op c.next.new.self left c.args.marks.now (c.is_fork_marked.ensures c.if-not-is_fork_marked.false)
    (subst (λ k. AreForksMarked c.next.new.self k c.args.marks.now) (c.saturating_sub-left.ensures ∙ ap (λ k. left - k) c.actions_in.ensures) rest)))

pub returns-then-left-eq0 : goal.returns-then-left-eq0
returns-then-left-eq0 c = λ yes. c.ops.invariant (none_done c.ops.cursor c.ops.left c.args.marks.now c.if-left-eq0.true)

pub returns : goal.returns
returns c = λ yes. c.ops.invariant (no_code c.ops.cursor c.ops.left c.args.marks.now c.in_default.ensures.none.0)
