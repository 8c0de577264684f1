-- A checked plan has a serial plain run up to its end, made step by step.
use Rattle.std.proofs.Common.{◌≡◌, ◌≢◌, ◌∙◌, ◌⊎◌, ℕ, zero, suc, ◌+◌, ◌<◌, ◌≤◌, true, List, [], ◌∷◌, Option, Some, None, length, ap, arith, inl, inr, refl, subst, sym}
use Rattle.std.proofs.lemmas.Bool.{cases_Bool, cases_lt}
use Rattle.armus_base.specs.declared.event.Event.{Event}
use Rattle.armus_base.specs.CheckedPlans.{IsCheckedPlan}
use Rattle.armus_base.specs.Places.{refused_at}
use Rattle.armus_base.specs.Plans.{Action, Aim, Passes, Plan, Refuses, action_at}
use Rattle.armus_base.specs.Runs.{IsByCode, IsMaximal, IsPlainRun, places, state_after}
use Rattle.armus_base.specs.States.{Step}
use Rattle.armus_base.proofs.Again.{in_code_plain}
use Rattle.armus_base.proofs.Codes.{no_refusal}
use Rattle.armus_base.proofs.MaximalExists.{all_actions, all_done, done_more, done_within, ends_or_goes}
use Rattle.armus_base.proofs.Members.{only_passes, plain_undropped}
use Rattle.armus_base.proofs.NextIsLegal.{next_is_legal}
use Rattle.armus_base.proofs.Published.{published_passes}
use Rattle.armus_base.proofs.Stepping.{acting_forked, places_fix}
use Rattle.armus_base.proofs.Tasks.{action_of_task, reached_or_not}
use Rattle.explain_steps.specs.calls.Laws.{SerialRunExists}
use Rattle.explain_steps.specs.SerialRuns.{IsSerialRun, TaskMayGoOn}
use Rattle.explain_steps.specs.calls.SerialRuns.{IsWholeSerialRun}
use Rattle.explain_steps.proofs.GoingOn.{last_may_go_on, own_next}
use Rattle.explain_steps.proofs.SerialIsPlain.{serial_is_plain}

module _ (plan : Plan) (checked : IsCheckedPlan plan) (h : List Step) (run : IsPlainRun plan h) where
  unrefused : (t : ℕ) → (state_after h).refused t ≡ None
  unrefused t =
      ap (λ s. s.refused t) ((places_fix plan checked h run.0).0) ∙ ap (refused_at plan t (places h t).done) (plain_undropped plan h run t)

  abbrev MayOrNot : ℕ → Type 0
  MayOrNot t = TaskMayGoOn plan h t ⊎ (TaskMayGoOn plan h t → ⊥)

  -- a task that waits
  waiting : (t : ℕ) → (state_after h).forked t ≡ true → (e : Event) → (state_after h).published t ≡ Some e → MayOrNot t
  waiting t forked e on =
      let at = places_fix plan checked h run.0 in
      let passes = published_passes plan t (places h t).done e (ap (λ s. s.published t) (sym at.0) ∙ on) in
      elim (reached_or_not plan checked h run.0 e.p.0 e.n) [
        | inl reached ↦ inl (Passes e.p.0, passes, (forked, e.n, on, reached, unrefused t))
        | inr unreached ↦ inr (λ (x, next, legal). unreached ((only_passes plan (state_after h) t x e legal on).1))
      ]

  by_event : (t : ℕ) (x : Action) → action_at plan t (places h t).done ≡ Some x → (state_after h).forked t ≡ true → (o : Option Event)
      → (state_after h).published t ≡ o → MayOrNot t
  by_event t x next forked None off =
      inl (x, next, next_is_legal plan h t x checked run.0 (record { forked = forked; unpublished = off; unrefused = unrefused t }) next)
  by_event t x next forked (Some e) on = waiting t forked e on

  by_next : (t : ℕ) (o : Option Action) → action_at plan t (places h t).done ≡ o → MayOrNot t
  by_next t None next = inr (λ (x, some, legal). absurd (let both = sym next ∙ some in cc))
  by_next t (Some x) next =
      elim (cases_Bool ((state_after h).forked t)) [
        | inl forked ↦ by_event t x next forked ((state_after h).published t) refl
        | inr idle ↦ inr (λ (y, some, legal). absurd (let forked = acting_forked plan (state_after h) t y legal in cc))
      ]

  -- a task may go on, or it may not
  may_or_not : (t : ℕ) → MayOrNot t
  may_or_not t = by_next t (action_at plan t (places h t).done) refl

  abbrev Least : Type 0
  Least = (t : ℕ) × TaskMayGoOn plan h t × ((u : ℕ) → u < t → TaskMayGoOn plan h u → ⊥)

  -- of the first tasks one is the least that may go on, or none may
  least_or_none : (n : ℕ) → Least ⊎ ((t : ℕ) → t < n → TaskMayGoOn plan h t → ⊥)
  least_or_none zero = inr (λ t l may. absurd (omega (arith, l)))
  least_or_none (suc n) =
      elim (least_or_none n) [
        | inl one ↦ inl one
        | inr none ↦
            elim (may_or_not n) [
              | inl may ↦ inl (n, may, none)
              | inr not_last ↦ inr (λ t l may.
                  elim (cases_lt t n) [
                    | inl below ↦ none t below may
                    | inr above ↦ let same : t ≡ n = omega (arith, l, above) in not_last (subst (TaskMayGoOn plan h) same may)
                  ])
            ]
      ]

  -- where none may, the run has ended
  pub none_is_maximal : ((t : ℕ) → t < length plan.parents → TaskMayGoOn plan h t → ⊥) → IsMaximal plan h
  none_is_maximal none t forked = elim (ends_or_goes plan checked h run t) [
    | inl ends ↦ ends forked
    | inr (e, more) ↦
        absurd (none e.task (action_of_task plan checked e.task (places h e.task).done e.action (own_next plan e h more)) (last_may_go_on plan e h more))
  ]

  -- the least task makes the next step of a serial plain run
  least_goes : IsSerialRun plan h → Least → (e : Step) × IsSerialRun plan (e ∷ h)
  least_goes serial (t, (x, next, legal), least) =
      let plain : (aim : Aim) → x ≢ Refuses aim = λ aim is. no_refusal plan t (places h t).done aim (next ∙ ap Some is) in
      let by_code : IsByCode plan t (places h t).done (places h t).dropped x =
      subst (λ o. IsByCode plan t (places h t).done o x) (sym (plain_undropped plan h run t)) (next ∙ ap Some (sym (in_code_plain x plain))) in (
        record { task = t; action = x },
        (serial, record { next = record { legal = legal; by_code = by_code }; plain = plain; least = least }),
      )

module _ (plan : Plan) (checked : IsCheckedPlan plan) where
  ends_or_one : (h : List Step) → IsSerialRun plan h → IsMaximal plan h ⊎ ((e : Step) × IsSerialRun plan (e ∷ h))
  ends_or_one h serial =
      let run = serial_is_plain plan h serial in
      elim (least_or_none plan checked h run (length plan.parents)) [
        | inl one ↦ inr (least_goes plan checked h run serial one)
        | inr none ↦ inl (none_is_maximal plan checked h run none)
      ]

  one_more_done : (e : Step) (h : List Step) → IsSerialRun plan (e ∷ h) → all_done plan (e ∷ h) ≡ suc (all_done plan h)
  one_more_done e h serial =
      let run = serial_is_plain plan (e ∷ h) serial in
      done_more plan checked e h run (action_of_task plan checked e.task (places h e.task).done e.action (own_next plan e h run))

  -- with n actions left, a serial plain run goes on to its end
  to_end : (n : ℕ) (h : List Step) → IsSerialRun plan h → all_actions plan ≤ n + all_done plan h → (m : List Step) × IsWholeSerialRun plan m
  to_end zero h serial enough =
      elim (ends_or_one h serial) [
        | inl maximal ↦ (h, record { serial = serial; maximal = maximal })
        | inr (e, more) ↦
            absurd (let l = done_within plan checked (e ∷ h) (serial_is_plain plan (e ∷ h) more) in
            let m = one_more_done e h more in
            omega (arith, l, m, enough))
      ]
  to_end (suc n) h serial enough =
      elim (ends_or_one h serial) [
        | inl maximal ↦ (h, record { serial = serial; maximal = maximal })
        | inr (e, more) ↦ to_end n (e ∷ h) more (let m = one_more_done e h more in omega (arith, m, enough))
      ]

pub serial_run_exists : SerialRunExists
serial_run_exists plan checked = to_end plan checked (all_actions plan) [] tt (omega arith)
