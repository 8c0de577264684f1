-- One step of one task in a plain run, by what is left of its code.
use Rattle.std.proofs.Common.{◌≡◌, ℕ, true, Some, None, List, ◌∷◌, drop, ◌∙◌, ap}
use Rattle.armus_base.specs.Plans.{Action, Plan, action_at, actions}
use Rattle.armus_base.specs.States.{IsLegal, Step}
use Rattle.armus_base.specs.Runs.{IsPlainRun, places, state_after}
use Rattle.armus_base.specs.Places.{refused_at}
use Rattle.armus_base.specs.CheckedPlans.{IsCheckedPlan}
use Rattle.armus_base.proofs.Members.{plain_undropped, plain_step}
use Rattle.armus_base.proofs.NextIsLegal.{next_is_legal}
use Rattle.armus_base.proofs.Stepping.{places_fix}
use Rattle.armus_base.proofs.OwnSteps.{plain_longer}
use Rattle.clock_laws.proofs.Entries.{drop_next}

-- a step of a task
abbrev pub step_of : ℕ → Action → Step
step_of t x = record { task = t; action = x }

-- the actions that a task has left after a run
abbrev pub actions_left : Plan → List Step → ℕ → List Action
actions_left plan h t = drop (places h t).done (actions plan t)

module _ (plan : Plan) (checked : IsCheckedPlan plan) (h : List Step) (run : IsPlainRun plan h) (t : ℕ) (x : Action) (xs : List Action) where
  pub next_action : actions_left plan h t ≡ x ∷ xs → action_at plan t (places h t).done ≡ Some x
  unfolding action_at
  next_action left = (drop_next (places h t).done (actions plan t) x xs left).0

  pub unrefused : (state_after h).refused t ≡ None
  unrefused =
      ap (λ s. s.refused t) ((places_fix plan checked h run.0).0) ∙ ap (refused_at plan t (places h t).done) (plain_undropped plan h run t)

  -- the step of the next action, if it is legal
  pub acts_legally : actions_left plan h t ≡ x ∷ xs → IsLegal plan (state_after h) t x → IsPlainRun plan (step_of t x ∷ h)
  acts_legally left legal = plain_longer plan h t x run (record { by_code = next_action left; legal = legal })

  pub then_left : actions_left plan h t ≡ x ∷ xs → IsPlainRun plan (step_of t x ∷ h) → actions_left plan (step_of t x ∷ h) t ≡ xs
  then_left left more =
      ap (λ v. drop v.done (actions plan t)) (plain_step plan (step_of t x) h more) ∙ (drop_next (places h t).done (actions plan t) x xs left).1

  pub next_legal_here :
      actions_left plan h t ≡ x ∷ xs → (state_after h).forked t ≡ true → (state_after h).published t ≡ None → IsLegal plan (state_after h) t x
  next_legal_here left forked unpublished =
      next_is_legal plan h t x checked run.0 (record { forked = forked; unpublished = unpublished; unrefused = unrefused }) (next_action left)
