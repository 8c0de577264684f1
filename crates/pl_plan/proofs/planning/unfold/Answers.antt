use Rattle.std.proofs.Common.{◌≡◌, Err, ◌∙◌, ap}
use Rattle.std.proofs.lemmas.Result.{err_from_is_err_and}
use Rattle.armus_base.specs.calls.Plans.{folded_plan}
use Rattle.pl_plan.specs.Unfolding.{with_pieces}
use Rattle.pl_plan.proofs.Opens.{unfold_fault}
use Rattle.pl_plan.proofs.Planned.{IsLast, last_can_fold, last_checked, last_found, last_plan}
use Rattle.pl_plan.proofs.ForksKept.{forks_found}
use Rattle.pl_plan.proofs.planning.unfold.Goals as goal
use Rattle.pl_plan.proofs.planning.unfold.Goals.{After-deref-2, After-from_vec-2}

pub returns-in_err-checker : goal.returns-in_err-checker
returns-in_err-checker c =
    let p = err_from_is_err_and c.from_residual.result c.from_residual.ensures.1 in
    record {
      unfolded =
          unfold_fault c.args.program.now c.in_err-checker.field-0.0 c.in_err-checker.ensures c.from_residual.result (p.1 ∙ ap Err p.2);
    }

-- what is kept last
last : (c : After-deref-2) → IsLast c.in_ok-checker.ensures.names c.in_ok-checker.checker c.args.program.now c.deref.result.now c.deref-2.result.now
    c.into_parts-steps.result.codes.items
last c = record {
  fits = c.in_ok-checker.ensures.fits;
  deep = c.requires.shallow;
  few = c.in_ok-checker.ensures.few;
  end = c.in_ok-checker.ensures.end;
  steps_are = c.deref.ensures.value ∙ c.into_parts-steps.ensures.steps;
  kept_are = c.deref-2.ensures.value ∙ c.into_parts-steps.ensures.starts;
  codes_are = c.into_parts-steps.ensures.codes;
}

pub codes_of-requires : goal.codes_of-requires
codes_of-requires c = record { folds = last_can_fold (last (goal.at.codes_of-requires c).After-deref-2) }

-- and the plan of its parts
planned :
    (c : After-from_vec-2) (l : IsLast c.in_ok-checker.ensures.names c.in_ok-checker.checker c.args.program.now c.deref.result.now c.deref-2.result.now
    c.into_parts-steps.result.codes.items) → folded_plan c.from_vec.result c.from_vec-2.result c.in_ok-codes.codes ≡ with_pieces l.end.0
planned c l =
    last_plan l c.from_vec.result c.from_vec-2.result c.in_ok-codes.codes (c.from_vec.ensures.items ∙ c.into_parts-steps.ensures.parents)
    (c.from_vec-2.ensures.items ∙ c.into_parts-steps.ensures.makers) c.in_ok-codes.ensures.folded

pub from_parts-plan-requires : goal.from_parts-plan-requires
from_parts-plan-requires c =
    let at = goal.at.from_parts-plan-requires c in
    let l = last at.After-deref-2 in record {
      checked = last_checked l (folded_plan c.from_vec.result c.from_vec-2.result c.in_ok-codes.codes) c.in_ok-checker.ensures.near
          (planned at.After-from_vec-2 l);
    }

pub returns : goal.returns
returns c =
    let at = goal.at.returns c in
    let l = last at.After-deref-2 in record {
      unfolded = (
        last_found l c.from_parts-plan.result (c.from_parts-plan.ensures.parts ∙ planned at.After-from_vec-2 l),
        c.in_ok-forks.ensures ∙ forks_found c.in_ok-checker.ensures.names c.in_ok-checker.checker c.args.program.now l.end c.deref-3.result.now
            (c.deref-3.ensures.value ∙ c.into_parts-steps.ensures.starts),
      );
    }
