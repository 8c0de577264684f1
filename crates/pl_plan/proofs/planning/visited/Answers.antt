use Rattle.std.proofs.Common.{Err, length, arith, ◌∙◌, ap}
use Rattle.std.proofs.lemmas.Result.{err_from_is_err_and}
use Rattle.pl_plan.specs.Unfolding.{opening_state}
use Rattle.pl_plan.proofs.Opens.{visited_fault}
use Rattle.pl_plan.proofs.Planned.{as_many_steps, flat_few, flat_near, opens_flat}
use Rattle.pl_plan.proofs.planning.visited.Goals as goal

pub new-requires : goal.new-requires
new-requires c = omega (arith, as_many_steps c.in_ok-steps.ensures, c.requires)

pub unfold_tasks-requires-clause-small : goal.unfold_tasks-requires-clause-small
unfold_tasks-requires-clause-small c = omega (arith, ap length c.in_ok-checker.ensures.steps_are, as_many_steps c.in_ok-steps.ensures, c.requires)

pub returns-in_err-unfold_tasks : goal.returns-in_err-unfold_tasks
returns-in_err-unfold_tasks c =
    let p = err_from_is_err_and c.from_residual-in_err-unfold_tasks.result c.from_residual-in_err-unfold_tasks.ensures.1 in
    visited_fault c.args.program.now c.in_err-unfold_tasks.field-0.0 _
    (c.in_err-unfold_tasks.ensures.follows c.in_ok-steps.ensures.spelling (opening_state c.args.program.now.body)
    (opens_flat c.in_ok-steps.ensures c.in_ok-checker.checker c.in_ok-checker.ensures))
    c.from_residual-in_err-unfold_tasks.result (p.1 ∙ ap Err p.2)

pub returns : goal.returns
returns c = record {
  fits = c.in_ok-unfold_tasks.ensures.keeps.fits;
  near = flat_near c.in_ok-steps.ensures;
  few = flat_few c.in_ok-steps.ensures;
  names = c.in_ok-steps.ensures.spelling;
  end =
      c.in_ok-unfold_tasks.ensures.follows c.in_ok-steps.ensures.spelling (opening_state c.args.program.now.body)
      (opens_flat c.in_ok-steps.ensures c.in_ok-checker.checker c.in_ok-checker.ensures);
}
