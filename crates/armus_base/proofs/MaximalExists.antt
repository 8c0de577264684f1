-- A maximal plain run of a checked plan, made step by step.
use Rattle.std.proofs.Common.{◌≡◌, ℕ, zero, suc, ◌<◌, ◌≤◌, ◌+◌, true, Option, Some, None, List, [], ◌∷◌, length, arith, sym, ◌∙◌, ap, refl, ◌⊎◌, inl, inr}
use Rattle.std.proofs.lemmas.Bool.{cases_lt, cases_Bool}
use Rattle.armus_base.specs.declared.event.Event.{Event}
use Rattle.armus_base.specs.Plans.{Action, Passes, Plan, action_at, actions}
use Rattle.armus_base.specs.States.{IsLegal, Step}
use Rattle.armus_base.specs.Runs.{HasEnded, IsMaximal, IsPlainRun, is_done, is_waiting, places, state_after}
use Rattle.armus_base.specs.Places.{done_by, refused_at}
use Rattle.armus_base.specs.CheckedPlans.{IsCheckedPlan}
use Rattle.armus_base.specs.calls.RunLaws.{MaximalExists}
use Rattle.armus_base.proofs.Stepping.{places_fix}
use Rattle.armus_base.proofs.Members.{plain_undropped, plain_step, other_step}
use Rattle.armus_base.proofs.NextIsLegal.{next_is_legal}
use Rattle.armus_base.proofs.Published.{published_passes}
use Rattle.armus_base.proofs.Tasks.{all_or_one, no_action, begun_within, done_within_code, reached_or_not}
use Rattle.armus_base.proofs.Sums.{sum_at_most, sum_below, sum_more}
use Rattle.armus_base.proofs.OwnSteps.{plain_longer}

-- how many actions all tasks have, and how many are done
pub all_actions : Plan → ℕ
all_actions plan = sum_below (λ t. length (actions plan t)) (length plan.parents)

pub all_done : Plan → List Step → ℕ
all_done plan h = sum_below (done_by (places h)) (length plan.parents)

module _ (plan : Plan) (checked : IsCheckedPlan plan) where
  -- a task either makes its next step, or has come to an end
  module _ (h : List Step) (run : IsPlainRun plan h) (t : ℕ) where
    abbrev GoesOn : Type 0
    GoesOn = (e : Step) × IsPlainRun plan (e ∷ h)

    abbrev Ends : Type 0
    Ends = (state_after h).forked t ≡ true → HasEnded plan (state_after h) (places h t) t

    goes : (x : Action) → action_at plan t (places h t).done ≡ Some x → IsLegal plan (state_after h) t x → GoesOn
    goes x next legal = (record { task = t; action = x }, plain_longer plan h t x run (record { by_code = next; legal = legal }))

    -- a published task
    waits :
        (x : Action) → action_at plan t (places h t).done ≡ Some x → (state_after h).forked t ≡ true →
        (e : Event) → (state_after h).published t ≡ Some e → Ends ⊎ GoesOn
    waits x next forked e published =
        let at = places_fix plan checked h run.0 in
        let passes = published_passes plan t (places h t).done e (ap (λ s. s.published t) (sym at.0) ∙ published) in
        elim (reached_or_not plan checked h run.0 e.p.0 e.n) [
          | inl reached ↦ inr (goes (Passes e.p.0) passes (
            forked,
            e.n,
            published,
            reached,
            ap (λ s. s.refused t) at.0 ∙ ap (refused_at plan t (places h t).done) (plain_undropped plan h run t),
          ))
          | inr unreached ↦ inl (λ f. is_waiting e published unreached)
        ]

    unpublished :
        (x : Action) → action_at plan t (places h t).done ≡ Some x → (state_after h).forked t ≡ true →
        (state_after h).published t ≡ None → GoesOn
    unpublished x next forked none =
        goes x next (next_is_legal plan h t x checked run.0
        (record {
          forked = forked;
          unpublished = none;
          unrefused =
              ap (λ s. s.refused t) ((places_fix plan checked h run.0).0)
              ∙ ap (refused_at plan t (places h t).done) (plain_undropped plan h run t);
        })
        next)

    by_event :
        (x : Action) → action_at plan t (places h t).done ≡ Some x → (state_after h).forked t ≡ true →
        (w : Option Event) → (state_after h).published t ≡ w → Ends ⊎ GoesOn
    by_event x next forked None published = inr (unpublished x next forked published)
    by_event x next forked (Some e) published = waits x next forked e published

    by_next : (o : Option Action) → action_at plan t (places h t).done ≡ o → Ends ⊎ GoesOn
    by_next None next = inl (λ f. is_done next)
    by_next (Some x) next =
        elim (cases_Bool ((state_after h).forked t)) [
          | inl forked ↦ by_event x next forked ((state_after h).published t) refl
          | inr idle ↦ inl (λ forked. absurd (cc))
        ]

    pub ends_or_goes : Ends ⊎ GoesOn
    ends_or_goes = by_next (action_at plan t (places h t).done) refl

  -- what a plain run has done is at most all actions
  pub done_within : (h : List Step) → IsPlainRun plan h → all_done plan h ≤ all_actions plan
  unfolding all_done all_actions
  done_within h run = sum_at_most (done_by (places h)) (λ t. length (actions plan t)) (done_within_code plan checked h run) (length plan.parents)

  -- a step of a task of the plan is one action more
  pub done_more : (e : Step) (h : List Step) → IsPlainRun plan (e ∷ h) → e.task < length plan.parents → all_done plan (e ∷ h) ≡ suc (all_done plan h)
  unfolding all_done
  done_more e h run l =
      sum_more (done_by (places h)) (done_by (places (e ∷ h))) e.task (ap (λ v. v.done) (plain_step plan e h run))
      (λ u n. ap (λ v. v.done) (other_step e h u n)) (length plan.parents) l

  ends_or_one :
      (h : List Step) → IsPlainRun plan h → IsMaximal plan h ⊎ ((e : Step) × IsPlainRun plan (e ∷ h) × all_done plan (e ∷ h) ≡ suc (all_done plan h))
  ends_or_one h run =
      elim (all_or_one (λ t. Ends h run t) (λ t. GoesOn h run t) (λ t. ends_or_goes h run t) (length plan.parents)) [
        | inl all ↦ inl (λ t forked.
            elim (cases_lt t (length plan.parents)) [
              | inl l ↦ all t l forked
              | inr l ↦ is_done (no_action plan checked t (places h t).done l)
            ])
        | inr one ↦
            let e = one.2.0 in
            let more = one.2.1 in
            let grown : done_by (places (e ∷ h)) e.task ≡ suc (done_by (places h) e.task) = ap (λ v. v.done) (plain_step plan e h more) in
            inr (e, more, done_more e h more (begun_within plan checked (e ∷ h) more e.task (omega arith)))
      ]

  -- with n actions left, a run goes on to a maximal one
  pub goes_on_to_end :
      (n : ℕ) (h : List Step) → IsPlainRun plan h → all_actions plan ≤ n + all_done plan h → (m : List Step) × IsPlainRun plan m × IsMaximal plan m
  goes_on_to_end zero h run enough =
      elim (ends_or_one h run) [
        | inl maximal ↦ (h, run, maximal)
        | inr one ↦ absurd (let l = done_within (one.0 ∷ h) one.1 in let m = one.2 in omega arith)
      ]
  goes_on_to_end (suc n) h run enough =
      elim (ends_or_one h run) [
        | inl maximal ↦ (h, run, maximal)
        | inr one ↦ goes_on_to_end n (one.0 ∷ h) one.1 (let m = one.2 in omega arith)
      ]

pub maximal_exists : MaximalExists
maximal_exists plan checked = goes_on_to_end plan checked (all_actions plan) [] (tt, tt) (omega arith)
