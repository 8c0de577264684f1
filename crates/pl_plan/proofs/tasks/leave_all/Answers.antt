use Rattle.std.proofs.Common.{Err, arith, ◌∙◌, ap}
use Rattle.std.proofs.lemmas.Result.{err_from_is_err_and}
use Rattle.pl_plan.proofs.Beginning.{leaving_starts, leaving_on, leaving_fails}
use Rattle.pl_plan.proofs.tasks.leave_all.Goals as goal

pub loop-p-init : goal.loop-p-init
loop-p-init c = leaving_starts c.args.checker.now c.args.t.0 c.args.n c.requires.fits

pub returns-in_err-leave_if_member-clause-leaves : goal.returns-in_err-leave_if_member-clause-leaves
returns-in_err-leave_if_member-clause-leaves c =
    let p = err_from_is_err_and c.from_residual.result c.from_residual.ensures.1 in
    leaving_fails c.args.checker.now c.args.t.0 c.args.n c.loop-p.p c.loop-p.checker c.loop-p.invariant c.in_err-leave_if_member.field-0.0 c.leave_if_member.new.checker _ _
    (omega (arith, c.loop-p-test)) c.in_err-leave_if_member.ensures (p.1 ∙ ap Err p.2)

pub loop-p-preserved : goal.loop-p-preserved
loop-p-preserved c =
    leaving_on c.args.checker.now c.args.t.0 c.args.n c.loop-p.p c.loop-p.checker c.loop-p.invariant c.leave_if_member.new.checker (omega (arith, c.loop-p-test))
    c.in_ok-leave_if_member.ensures
