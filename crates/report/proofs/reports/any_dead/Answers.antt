use Rattle.std.proofs.Common.{◌∙◌, ap, subst, length}
use Rattle.std.specs.Prelude.{◌==◌}
use Rattle.armus_base.specs.DeadLists.{IsDeadList}
use Rattle.report.proofs.DeadTasks.{some_dead}
use Rattle.report.proofs.reports.any_dead.Goals as goal

pub returns : goal.returns
returns c =
    let dead = c.in_ok-dead.dead in
    let h : IsDeadList c.args.end.now.blocked dead = subst (λ ss. IsDeadList ss dead) c.as_slice.ensures.items c.in_ok-dead.ensures in
    some_dead c.args.end.now.blocked dead c.is_empty.result h (c.is_empty.ensures ∙ ap (λ ts. length ts == 0) c.as_slice-2.ensures.items)
