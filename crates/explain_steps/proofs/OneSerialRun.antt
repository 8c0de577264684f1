-- A plan has one serial plain run up to its end.
use Rattle.std.proofs.Common.{◌≡◌, ◌≢◌, ◌∙◌, ℕ, zero, suc, ◌≤◌, List, [], ◌∷◌, Option, Some, None, length, drop, ap, arith, inl, inr, refl, subst, sym}
use Rattle.std.specs.Prelude.{IsSome}
use Rattle.std.proofs.lemmas.Bool.{cases_eq, cases_lt, false≢true}
use Rattle.armus_base.specs.CheckedPlans.{IsCheckedPlan}
use Rattle.armus_base.specs.Places.{refused_at}
use Rattle.armus_base.specs.Plans.{Plan, action_at}
use Rattle.armus_base.specs.Runs.{HasEnded, IsMaximal, IsPlainRun, is_done, is_refused, is_waiting, places, state_after}
use Rattle.armus_base.specs.States.{State, Step}
use Rattle.armus_base.proofs.Members.{only_passes, plain_undropped}
use Rattle.armus_base.proofs.Stepping.{acting_forked, places_fix}
use Rattle.explain_steps.specs.calls.Laws.{FirstStepsAreSerial, OneSerialRun}
use Rattle.explain_steps.specs.SerialRuns.{IsSerialRun, TaskMayGoOn}
use Rattle.explain_steps.proofs.GoingOn.{last_may_go_on, own_next}
use Rattle.explain_steps.proofs.SerialIsPlain.{serial_is_plain}

-- what is left of a serial plain run without its last steps
drop_serial : (plan : Plan) (n : ℕ) (h : List Step) → IsSerialRun plan h → IsSerialRun plan (drop n h)
drop_serial plan zero [] run = run
drop_serial plan (suc n) [] run = run
drop_serial plan zero (e ∷ h) run = run
drop_serial plan (suc n) (e ∷ h) run = drop_serial plan n h run.0

pub first_steps_are_serial : FirstStepsAreSerial
first_steps_are_serial plan n h run = drop_serial plan _ h run

-- after a plain run that has ended no task may go on
module _ (plan : Plan) (checked : IsCheckedPlan plan) (h : List Step) (run : IsPlainRun plan h) where
  unrefused : (t : ℕ) → (state_after h).refused t ≡ None
  unrefused t =
      ap (λ (s : State). s.refused t) ((places_fix plan checked h run.0).0)
      ∙ ap (refused_at plan t (places h t).done) (plain_undropped plan h run t)

  none_is_some : {A : Type 0} (o : Option A) → o ≡ None → IsSome o → ⊥
  none_is_some None is some = absurd (false≢true some)
  none_is_some (Some x) is some = absurd (cc)

  pub ended_stays : (t : ℕ) → HasEnded plan (state_after h) (places h t) t → TaskMayGoOn plan h t → ⊥
  ended_stays t (is_done none) (x, next, legal) = absurd (let some = sym none ∙ next in cc)
  ended_stays t (is_waiting e on unreached) (x, next, legal) = unreached ((only_passes plan (state_after h) t x e legal on).1)
  ended_stays t (is_refused some left) (x, next, legal) = none_is_some ((state_after h).refused t) (unrefused t) some

  pub maximal_stays : IsMaximal plan h → (t : ℕ) → TaskMayGoOn plan h t → ⊥
  maximal_stays maximal t (x, next, legal) = ended_stays t (maximal t (acting_forked plan (state_after h) t x legal)) (x, next, legal)

-- one step is the next after a serial plain run
same_step : (e d : Step) → e.task ≡ d.task → e.action ≡ d.action → e ≡ d
same_step e d p q = λ i. record { task = p i; action = q i }

module _ (plan : Plan) (h : List Step) (e d : Step) (one : IsSerialRun plan (e ∷ h)) (other : IsSerialRun plan (d ∷ h)) where
  by_e : IsPlainRun plan (e ∷ h)
  by_e = serial_is_plain plan (e ∷ h) one

  by_d : IsPlainRun plan (d ∷ h)
  by_d = serial_is_plain plan (d ∷ h) other

  same_task : e.task ≡ d.task
  same_task = elim (cases_lt e.task d.task) [
    | inl l ↦ absurd (other.1.least e.task l (last_may_go_on plan e h by_e))
    | inr l ↦ elim (cases_lt d.task e.task) [
      | inl m ↦ absurd (one.1.least d.task m (last_may_go_on plan d h by_d))
      | inr m ↦ omega (arith, l, m)
    ]
  ]

  pub one_next : e ≡ d
  one_next =
      let both : Some e.action ≡ Some d.action =
      sym (own_next plan e h by_e) ∙ ap (λ (t : ℕ). action_at plan t (places h t).done) same_task ∙ own_next plan d h by_d in
      same_step e d same_task (cc)

-- so runs of one length are the same
as_long : (plan : Plan) (h g : List Step) → IsSerialRun plan h → IsSerialRun plan g → length h ≡ length g → h ≡ g
as_long plan [] [] a b same = refl
as_long plan [] (d ∷ g) a b same = absurd (omega (arith, same))
as_long plan (e ∷ h) [] a b same = absurd (omega (arith, same))
as_long plan (e ∷ h) (d ∷ g) a b same =
    let rest : h ≡ g = as_long plan h g a.0 b.0 (omega (arith, same)) in
    let there : IsSerialRun plan (d ∷ h) = subst (λ (f : List Step). IsSerialRun plan (d ∷ f)) (sym rest) b in
    let next : e ≡ d = one_next plan h e d a there in
    (λ i. next i ∷ rest i)

-- a run that has ended is no shorter than another
none_longer : (plan : Plan) (checked : IsCheckedPlan plan) (h : List Step) → IsSerialRun plan h → IsMaximal plan h → (g : List Step) → IsSerialRun plan g
    → length h ≤ length g → h ≡ g
none_longer plan checked h run maximal [] other l = as_long plan h [] run other (omega (arith, l))
none_longer plan checked h run maximal (d ∷ g) other l =
    elim (cases_eq (length h) (length (d ∷ g))) [
      | inl same ↦ as_long plan h (d ∷ g) run other same
      | inr more ↦
          let rest : h ≡ g = none_longer plan checked h run maximal g other.0 (fewer more) in
          let may : TaskMayGoOn plan g d.task = last_may_go_on plan d g (serial_is_plain plan (d ∷ g) other) in
          absurd (maximal_stays plan checked h (serial_is_plain plan h run) maximal d.task (subst (λ (f : List Step). TaskMayGoOn plan f d.task) (sym rest) may))
    ]
  where
    fewer : length h ≢ length (d ∷ g) → length h ≤ length g
    fewer more = elim (cases_lt (length g) (length h)) [
      | inl m ↦ absurd (more (omega (arith, l, m)))
      | inr m ↦ m
    ]

pub one_serial_run : OneSerialRun
one_serial_run plan h g checked a b =
    elim (cases_lt (length g) (length h)) [
      | inl l ↦ sym (none_longer plan checked g b.serial b.maximal h a.serial (omega (arith, l)))
      | inr l ↦ none_longer plan checked h a.serial a.maximal g b.serial l
    ]
