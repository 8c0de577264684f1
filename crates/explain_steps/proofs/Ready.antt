-- A task that stands before an op that is no await makes this op next.
use Rattle.std.proofs.Common.{◌≡◌, ◌≢◌, ◌∙◌, ℕ, ◌<◌, Some, length, ap, inl, inr, subst}
use Rattle.std.specs.Prelude.{slice_get}
use Rattle.armus_base.specs.declared.op.Op.{Op}
use Rattle.armus_base.specs.CheckedPlans.{IsCheckedPlan}
use Rattle.armus_base.specs.Plans.{Action, Passes, code_of}
use Rattle.armus_base.specs.Runs.{IsReachable}
use Rattle.armus_base.specs.States.{IsLegal}
use Rattle.pl_core.specs.calls.Stands.{IsBeforeOp}
use Rattle.pl_core.specs.Tasks.{IsAtOp}
use Rattle.pl_core.specs.calls.Worlds.{WorldValue, action_by_code, places_of, state_of}
use Rattle.pl_core.specs.inside.Ops.{action_of}
use Rattle.pl_core.proofs.GoingOn.{legal_when_active}
use Rattle.explain_steps.specs.inside.SoFar.{IsNoAwait}
use Rattle.explain_steps.proofs.AtOp.{begins_no_await, begins_or_passes, stands_at_op}

module _ (w : WorldValue) (checked : IsCheckedPlan w.plan) (reach : IsReachable w.plan (places_of w)) (t i : ℕ)
    (at : IsAtOp (code_of w.plan t) (places_of w t).done i) (ready : IsBeforeOp w t) where
  x : Action
  x = ready.1

  next : action_by_code w t ≡ Some x
  unfolding x
  next = ready.2

  -- its next action does not pass
  passes_not : (p : ℕ) → x ≢ Passes p
  passes_not p is =
      let legal : IsLegal w.plan (state_of w) t (Passes p) = subst (IsLegal w.plan (state_of w) t) is (legal_when_active w checked reach t x ready.0 next) in
      let on = legal.2 in
      let off = ready.0.unpublished in
      cc

  pub ready_within : i < length (code_of w.plan t)
  ready_within = stands_at_op w.plan t (places_of w t).done i at x next

  module _ (o : Op) (here : slice_get (code_of w.plan t) i ≡ Some o) where
    is_first : x ≡ action_of o
    is_first = elim (begins_or_passes w.plan t (places_of w t).done i at x next o here) [
      | inl same ↦ same
      | inr passes ↦ absurd (passes_not passes.0 passes.1)
    ]

    pub ready_next : action_by_code w t ≡ Some (action_of o)
    ready_next = next ∙ ap Some is_first

    pub ready_kind : IsNoAwait o
    unfolding x is_first
    ready_kind = begins_no_await o (λ aim is. ready.3 aim (is_first ∙ is))
