use Rattle.std.proofs.Common.{Err, Ok, ap, sym, ◌∙◌}
use Rattle.std.proofs.lemmas.Result.{err_from_is_err_and}
use Rattle.armus_base.specs.Limits.{max_tasks}
use Rattle.clock_pl.specs.inside.ClockCheckerSteps.{checker_activities}
use Rattle.clock_pl.proofs.ClockCodes.{each_folded, plan_checked, plan_err, plan_found}
use Rattle.clock_pl.proofs.planning.clock_plan.Goals as goal

pub returns-in_err-unfold_activities : goal.returns-in_err-unfold_activities
returns-in_err-unfold_activities c =
    let p = err_from_is_err_and c.from_residual-in_err-unfold_activities.result c.from_residual-in_err-unfold_activities.ensures.1 in
    record {
      unfolded =
          plan_err c.args.program.now.body c.in_ok-checker.checker c.unfold_activities.new.checker c.in_err-unfold_activities.field-0.0
          c.from_residual-in_err-unfold_activities.result c.in_ok-checker.ensures (p.1 ∙ ap Err p.2) c.in_err-unfold_activities.ensures;
    }

pub codes_of-requires : goal.codes_of-requires
codes_of-requires c = record {
  folded =
      each_folded c.args.program.now.body c.unfold_activities.new.checker
      (ap (checker_activities max_tasks 0) (sym c.in_ok-checker.ensures) ∙ c.in_ok-unfold_activities.ensures)
      c.into_lists-parents.result.codes.items c.into_lists-parents.ensures.codes;
}

pub from_parts-requires : goal.from_parts-requires
from_parts-requires c = record {
  checked =
      plan_checked c.args.program.now.body c.unfold_activities.new.checker
      (ap (checker_activities max_tasks 0) (sym c.in_ok-checker.ensures) ∙ c.in_ok-unfold_activities.ensures)
      c.from_vec.result c.from_vec-2.result c.into_lists-parents.result.codes.items c.in_ok-codes.codes
      (c.from_vec.ensures.items ∙ c.into_lists-parents.ensures.parents) (c.from_vec-2.ensures.items ∙ c.into_lists-parents.ensures.makers)
      c.into_lists-parents.ensures.codes c.in_ok-codes.ensures.codes;
}

pub returns : goal.returns
returns c = record {
  unfolded =
      plan_found c.args.program.now.body c.unfold_activities.new.checker
      (ap (checker_activities max_tasks 0) (sym c.in_ok-checker.ensures) ∙ c.in_ok-unfold_activities.ensures)
      c.from_vec.result c.from_vec-2.result c.into_lists-parents.result.codes.items c.in_ok-codes.codes
      (c.from_vec.ensures.items ∙ c.into_lists-parents.ensures.parents) (c.from_vec-2.ensures.items ∙ c.into_lists-parents.ensures.makers)
      c.into_lists-parents.ensures.codes c.in_ok-codes.ensures.codes
      ∙ ap Ok (sym c.from_parts.ensures.parts);
}
