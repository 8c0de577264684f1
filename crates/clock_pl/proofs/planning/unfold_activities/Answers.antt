use Rattle.std.proofs.Common.{Err, arith, ap, ◌∙◌}
use Rattle.std.proofs.lemmas.Result.{err_from_is_err_and}
use Rattle.clock_pl.specs.inside.ClockCheckerSteps.{checker_started}
use Rattle.std.specs.Prelude.{slice_get}
use Rattle.clock_pl.proofs.ActivitiesDone.{all_done, none_done, one_done, one_fails}
use Rattle.clock_pl.proofs.Comings.{gives_err}
use Rattle.clock_pl.proofs.planning.unfold_activities.Goals as goal

pub loop-t-init : goal.loop-t-init
loop-t-init c = none_done c.args.checker.now

pub returns-in_err-unfold_activity : goal.returns-in_err-unfold_activity
returns-in_err-unfold_activity c =
    let p = err_from_is_err_and c.from_residual.result c.from_residual.ensures.1 in
    gives_err c.in_err-unfold_activity.field-0.0 c.from_residual.result (checker_started c.loop-t.t (slice_get c.loop-t.checker.starts c.loop-t.t) c.loop-t.checker) _
    c.unfold_activity.new.checker c.unfold_activity.new.checker (p.1 ∙ ap Err p.2)
    (λ f e. one_fails c.args.checker.now c.loop-t.t c.loop-t.checker c.loop-t.invariant (omega arith) f e) c.in_err-unfold_activity.ensures

pub loop-t-preserved : goal.loop-t-preserved
loop-t-preserved c =
    one_done c.args.checker.now c.loop-t.t c.loop-t.checker c.loop-t.invariant (omega arith) c.unfold_activity.new.checker c.in_ok-unfold_activity.ensures

pub returns : goal.returns
returns c = all_done c.args.checker.now c.loop-t.t c.loop-t.checker c.loop-t.invariant (omega arith)
