-- The next step of one run, after another run.
use Rattle.std.proofs.Common.{◌≡◌, ◌≢◌, ℕ, ◌≤◌, true, Some, None, List, ◌∷◌, sym, ◌∙◌, ap, subst, refl, ◌⊎◌, inl, inr}
use Rattle.std.proofs.lemmas.Bool.{cases_Bool}
use Rattle.armus_base.specs.declared.event.Event.{Event}
use Rattle.armus_base.specs.Plans.{Action, Advances, Blocks, Drops, Forks, Makes, Passes, Plan, Refuses, Registers, action_at, in_code, Aim}
use Rattle.armus_base.specs.States.{IsLegal, IsReached, State, Step, event_at}
use Rattle.armus_base.specs.calls.Runs.{ArePrefixes, Precedes}
use Rattle.armus_base.specs.Runs.{IsByCode, IsPlainRun, places, state_after}
use Rattle.armus_base.specs.calls.Places.{IsConsistent}
use Rattle.armus_base.specs.Places.{done_by, published_after, refused_at, state_at}
use Rattle.armus_base.specs.CheckedPlans.{IsCheckedPlan}
use Rattle.armus_base.proofs.Fixed.{forked_later}
use Rattle.armus_base.proofs.Stepping.{places_fix, acting_forked}
use Rattle.armus_base.proofs.Members.{member_made, published_member, only_passes, plain_undropped, by_code_next}
use Rattle.armus_base.proofs.NextIsLegal.{next_is_legal}
use Rattle.armus_base.proofs.ReachedStays.{reached_stays_at_later}
use Rattle.armus_base.proofs.Tasks.{reached_or_not}

pub in_code_plain : (x : Action) → ((aim : Aim) → x ≢ Refuses aim) → in_code x ≡ x
in_code_plain (Refuses p) n = absurd (n p refl)
in_code_plain x n = refl

-- a task that may act is active, or it passes
pub active_or_passes :
    (plan : Plan) (s : State) (t : ℕ) (x : Action) → ((aim : Aim) → x ≢ Refuses aim) → s.refused t ≡ None → IsLegal plan s t x →
    (s.published t ≡ None × ((p : ℕ) → x ≢ Passes p)) ⊎ ((p : ℕ) × x ≡ Passes p)
active_or_passes plan s t (Makes q) plain unrefused l = inl (l.0.unpublished, λ p e. absurd (cc))
active_or_passes plan s t (Registers c q) plain unrefused l = inl (l.0.unpublished, λ p e. absurd (cc))
active_or_passes plan s t (Forks c) plain unrefused l = inl (l.0.unpublished, λ p e. absurd (cc))
active_or_passes plan s t (Advances q) plain unrefused l = inl (l.0.unpublished, λ p e. absurd (cc))
active_or_passes plan s t (Drops q) plain unrefused l = inl (l.1, λ p e. absurd (cc))
active_or_passes plan s t (Blocks q) plain unrefused l = inl (l.0.unpublished, λ p e. absurd (cc))
active_or_passes plan s t (Passes q) plain unrefused l = inr (q, refl)
active_or_passes plan s t (Refuses q) plain unrefused l = absurd (plain q refl)

-- where counts are at or after, places are
pub plain_after :
    (plan : Plan) (h g : List Step) → IsPlainRun plan h → ((t : ℕ) → done_by (places h) t ≤ done_by (places g) t) →
    ArePrefixes (places h) (places g)
plain_after plan h g run l t =
    subst (λ o. Precedes (places h t).done o (places g t).done (places g t).dropped) (sym (plain_undropped plan h run t)) (l t)

-- the last step e of a plain run, after a plain run m in which its task stands where it stands before e
module _ (plan : Plan) (checked : IsCheckedPlan plan) (h : List Step) (e : Step) (run : IsPlainRun plan (e ∷ h)) (m : List Step) (run_m : IsPlainRun plan m)
    (same : places h e.task ≡ places m e.task) where
  at_h : ((state_after h) ≡ state_at plan (places h)) × IsConsistent plan (places h)
  at_h = places_fix plan checked h run.0.0

  at_m : ((state_after m) ≡ state_at plan (places m)) × IsConsistent plan (places m)
  at_m = places_fix plan checked m run_m.0

  by_code_again : IsByCode plan e.task (places m e.task).done (places m e.task).dropped e.action
  by_code_again = subst (λ v. IsByCode plan e.task v.done v.dropped e.action) same run.0.1.by_code

  next_again : action_at plan e.task (places m e.task).done ≡ Some e.action
  next_again =
      by_code_next plan e.task (places m e.task).done (places m e.task).dropped e.action (plain_undropped plan m run_m e.task) by_code_again
      ∙ ap Some (in_code_plain e.action run.1.1)

  published_again : (state_after m).published e.task ≡ (state_after h).published e.task
  published_again =
      ap (λ s. s.published e.task) at_m.0
      ∙ ap (λ v. published_after plan e.task v.done) (sym same)
      ∙ ap (λ s. s.published e.task) (sym at_h.0)

  unrefused : (k : List Step) → IsPlainRun plan k → (state_after k).refused e.task ≡ None
  unrefused k run_k =
      ap (λ s. s.refused e.task) ((places_fix plan checked k run_k.0).0)
      ∙ ap (refused_at plan e.task (places k e.task).done) (plain_undropped plan k run_k e.task)

  from_legal : IsLegal plan (state_after m) e.task e.action → IsPlainRun plan (e ∷ m)
  from_legal legal = ((run_m.0, record { legal = legal; by_code = by_code_again }), (run_m.1, run.1.1))

  from_active : (state_after m).forked e.task ≡ true → (state_after h).published e.task ≡ None → IsPlainRun plan (e ∷ m)
  from_active forked none =
      from_legal (next_is_legal plan m e.task e.action checked run_m.0
      (record { forked = forked; unpublished = published_again ∙ none; unrefused = unrefused m run_m })
      next_again)

  from_passes :
      (p n : ℕ) → e.action ≡ Passes p → (state_after h).published e.task ≡ Some (event_at p n) →
      (state_after m).forked e.task ≡ true → IsReached (state_after m) (event_at p n) → IsPlainRun plan (e ∷ m)
  from_passes p n is published forked reached =
      from_legal (subst (λ x. IsLegal plan (state_after m) e.task x) (sym is) (forked, n, published_again ∙ published, reached, unrefused m run_m))

  -- it is a step there if its task is forked there, and the event that it passes, if any, is reached there
  pub again :
      (state_after m).forked e.task ≡ true →
      ((p n : ℕ) → e.action ≡ Passes p → (state_after h).published e.task ≡ Some (event_at p n) →
      IsReached (state_after h) (event_at p n) → IsReached (state_after m) (event_at p n)) →
      IsPlainRun plan (e ∷ m)
  again forked reached =
      elim (active_or_passes plan (state_after h) e.task e.action run.1.1 (unrefused h (run.0.0, run.1.0)) run.0.1.legal) [
        | inl active ↦ from_active forked active.0
        | inr passes ↦
            let legal : IsLegal plan (state_after h) e.task (Passes passes.0) =
            subst (λ x. IsLegal plan (state_after h) e.task x) passes.1 run.0.1.legal in
            from_passes passes.0 legal.1 passes.1 legal.2 forked (reached passes.0 legal.1 passes.1 legal.2 legal.3)
      ]

  -- so it is one where the other tasks stand later
  pub again_later : ((t : ℕ) → done_by (places h) t ≤ done_by (places m) t) → IsPlainRun plan (e ∷ m)
  again_later later =
      again
      (ap (λ s. s.forked e.task) at_m.0
      ∙ forked_later plan (done_by (places h)) (done_by (places m)) e.task later
      (ap (λ s. s.forked e.task) (sym at_h.0) ∙ acting_forked plan (state_after h) e.task e.action run.0.1.legal))
      (λ p n is published reached.
      let member = published_member plan h run.0.0 e.task (event_at p n) published in
      reached_stays_at_later plan h m (event_at p n) checked run.0.0 run_m.0 (plain_after plan h m (run.0.0, run.1.0) later)
      (member_made plan h run.0.0 e.task p member.0 member.1)
      reached)

  -- and whether it is one can be tested
  pub again_or_not : IsPlainRun plan (e ∷ m) ⊎ (IsPlainRun plan (e ∷ m) → ⊥)
  again_or_not =
      elim (cases_Bool ((state_after m).forked e.task)) [
        | inr idle ↦ inr (λ r. absurd (let f = acting_forked plan (state_after m) e.task e.action r.0.1.legal in cc))
        | inl forked ↦
            elim (active_or_passes plan (state_after h) e.task e.action run.1.1 (unrefused h (run.0.0, run.1.0)) run.0.1.legal) [
              | inl active ↦ inl (from_active forked active.0)
              | inr passes ↦
                  let legal : IsLegal plan (state_after h) e.task (Passes passes.0) =
                  subst (λ x. IsLegal plan (state_after h) e.task x) passes.1 run.0.1.legal in
                  elim (reached_or_not plan checked m run_m.0 passes.0 legal.1) [
                    | inl reached ↦ inl (from_passes passes.0 legal.1 passes.1 legal.2 forked reached)
                    | inr unreached ↦ inr (λ r.
                        let event : Event = (event_at passes.0 legal.1) in
                        unreached (only_passes plan (state_after m) e.task e.action event r.0.1.legal (published_again ∙ legal.2)).1)
                  ]
            ]
      ]
