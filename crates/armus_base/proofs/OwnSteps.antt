-- The steps of a plain run are those by which tasks go on by their codes.
use Rattle.std.proofs.Common.{◌≡◌, ◌≢◌, ℕ, List, ◌∷◌, Some, sym, ◌∙◌, ap, subst}
use Rattle.armus_base.specs.Plans.{Action, Aim, Plan, Refuses, action_at}
use Rattle.armus_base.specs.Runs.{IsByCode, IsOwnNextStep, IsPlainRun, places}
use Rattle.armus_base.specs.States.{Step}
use Rattle.armus_base.proofs.Again.{in_code_plain}
use Rattle.armus_base.proofs.Codes.{no_refusal}
use Rattle.armus_base.proofs.Members.{by_code_next, plain_undropped}

-- the last step of a plain run is how its task goes on by its code
pub last_goes_on : (plan : Plan) (h : List Step) (e : Step) → IsPlainRun plan (e ∷ h) → IsOwnNextStep plan h e.task e.action
last_goes_on plan h e run =
    record {
      by_code = by_code_next plan e.task (places h e.task).done (places h e.task).dropped e.action (plain_undropped plan h (run.0.0, run.1.0) e.task) run.0.1.by_code
          ∙ ap Some (in_code_plain e.action run.1.1);
      legal = run.0.1.legal;
    }

-- and a task that goes on makes a plain run longer
pub plain_longer :
    (plan : Plan) (h : List Step) (t : ℕ) (x : Action) → IsPlainRun plan h → IsOwnNextStep plan h t x → IsPlainRun plan (record { task = t; action = x } ∷ h)
plain_longer plan h t x run next = ((run.0, record { legal = next.legal; by_code = by_code }), (run.1, other))
  where
    other : (aim : Aim) → x ≢ Refuses aim
    other p same = no_refusal plan t (places h t).done p (subst (λ y. action_at plan t (places h t).done ≡ Some y) same next.by_code)

    by_code : IsByCode plan t (places h t).done (places h t).dropped x
    by_code = subst (λ o. IsByCode plan t (places h t).done o x) (sym (plain_undropped plan h run t)) (next.by_code ∙ ap Some (sym (in_code_plain x other)))
