-- Where an avoided run has ended each task has come as far as in any plain run, or stands refused before its block.
use Rattle.std.proofs.Common.{◌≡◌, ◌≢◌, ℕ, suc, ◌<◌, ◌≤◌, min, true, Option, Some, None, List, [], ◌∷◌, arith, sym, ◌∙◌, ap, subst, refl, ◌⊎◌, inl, inr}
use Rattle.std.specs.Prelude.{IsSome}
use Rattle.std.proofs.lemmas.Bool.{cases_Bool, cases_eq, cases_lt, false≢true}
use Rattle.std.proofs.lemmas.Option.{slice_get_cases, slice_get_within}
use Rattle.armus_base.specs.declared.ending.TaskEnd.{TaskEnd}
use Rattle.armus_base.specs.declared.ending.TaskEnd.TheVariants.{Done, Blocked, Refused, Unforked}
use Rattle.armus_base.specs.declared.event.Event.{Event}
use Rattle.armus_base.specs.calls.AgreementLaws.{AvoidedComesAsFar, DoneStaysDone, furthest}
use Rattle.armus_base.specs.Avoidance.{Avoids, IsAvoidedRun}
use Rattle.armus_base.specs.CheckedPlans.{IsCheckedPlan}
use Rattle.armus_base.specs.calls.FinalLaws.{Tells}
use Rattle.armus_base.specs.Finals.{end_of}
use Rattle.armus_base.specs.calls.Places.{IsConsistent}
use Rattle.armus_base.specs.Places.{done_by, kept, made_at, makes, own_step, phases_after, phases_at, published_after, refused_at, register_step, registered_by, state_at, forked_at}
use Rattle.armus_base.specs.Plans.{Action, Aim, Blocks, Forks, Makes, Passes, Plan, Refuses, action_at, actions, in_code, maker_of, parent_of}
use Rattle.armus_base.specs.calls.Runs.{ArePrefixes}
use Rattle.armus_base.specs.Runs.{IsMaximal, IsNextStep, IsPlainRun, Place, is_done, is_refused, is_waiting, next_place, places, state_after}
use Rattle.armus_base.specs.States.{IsReached, Step}
use Rattle.armus_base.proofs.AvoidanceAgrees.{blocking, dead_by_block, next_block}
use Rattle.armus_base.proofs.Codes.{passes_next}
use Rattle.armus_base.proofs.EndsTell.{ends_tell}
use Rattle.armus_base.proofs.Fixed.{forked_at_from, forked_at_is, forked_later, makes_is, phases_after-suc, phases_forked, phases_idle, registered_by-suc, root_forked, some_before_from, some_before_is}
use Rattle.armus_base.proofs.Members.{by_code_next, member_made, only_passes, other_step, plain_step, plain_undropped, published_member}
use Rattle.armus_base.proofs.NeverPassed.{dead_is_never_passed}
use Rattle.armus_base.proofs.NobodyIsDead.{avoided_legal}
use Rattle.armus_base.proofs.Published.{published_passes, published_undropped}
use Rattle.armus_base.proofs.ReachedLater.{reached_later}
use Rattle.armus_base.proofs.Stepping.{acting_forked, next_place_more, places_fix, unforked_idle}
use Rattle.armus_base.proofs.Steps.{updated_same}

-- what stands in a code stands before its end
pub code_ends : (plan : Plan) (t k j : ℕ) (x : Action) → action_at plan t k ≡ None → action_at plan t j ≡ Some x → j < k
unfolding action_at
code_ends plan t k j x none some =
    let l = slice_get_within (actions plan t) j x some in
    elim ((slice_get_cases (actions plan t) k).1) [
      | inl w ↦ absurd (let is = w.2 in cc)
      | inr w ↦ (let m = w.0 in omega arith)
    ]

module _ (plan : Plan) (checked : IsCheckedPlan plan) where
  -- the last step of an avoided run whose task is refused after it, where what is to be shown is so of a task that was refused before
  refused_by :
      (h : List Step) (e : Step) → IsAvoidedRun plan (e ∷ h) → (g : List Step) → IsPlainRun plan g →
      ((q : ℕ) → (places h e.task).dropped ≡ Some q → done_by (places g) e.task ≤ suc (done_by (places h) e.task)) →
      (q : ℕ) → (places (e ∷ h) e.task).dropped ≡ Some q → done_by (places g) e.task ≤ suc (done_by (places (e ∷ h)) e.task)
  refused_by h e run g run_g before q dropped = by_place (places h e.task).dropped refl e.action refl
    where
      k : ℕ
      k = done_by (places h) e.task

      there : places (e ∷ h) e.task ≡ next_place (places h e.task).done (places h e.task).dropped e.action
      there = updated_same (places h) e.task e.task (next_place (places h e.task).done (places h e.task).dropped e.action) refl

      by_place :
          (o : Option ℕ) → (places h e.task).dropped ≡ o → (x : Action) → e.action ≡ x → done_by (places g) e.task ≤ suc (done_by (places (e ∷ h)) e.task)
      by_place (Some d) is x act =
          let l = before d is in
          let m = next_place_more (places h e.task).done (places h e.task).dropped e.action in
          let same : done_by (places (e ∷ h)) e.task ≡ (next_place (places h e.task).done (places h e.task).dropped e.action).done = ap (λ v. v.done) there in
          omega arith
      by_place None is (Refuses aim) act =
          let avoids : Avoids (state_after h) e.task (Refuses aim) = subst (λ y. Avoids (state_after h) e.task y) act run.2 in
          let next : IsNextStep plan h (record { task = e.task; action = Refuses aim }) =
          subst (λ y. IsNextStep plan h (record { task = e.task; action = y })) act run.1 in
          let b = blocking e.task aim in
          let l = dead_is_never_passed plan (b ∷ h) g e.task checked (avoided_legal plan h run.0, next_block plan h e.task aim next) run_g
          (dead_by_block plan h e.task aim avoids) in
          let blocked : done_by (places (b ∷ h)) e.task ≡ suc (done_by (places h) e.task) =
          ap (λ v. v.done) (updated_same (places h) e.task e.task (next_place (places h e.task).done (places h e.task).dropped (Blocks aim)) refl)
          ∙ ap (λ o. (next_place (places h e.task).done o (Blocks aim)).done) is in
          let m = next_place_more (places h e.task).done (places h e.task).dropped e.action in
          let same : done_by (places (e ∷ h)) e.task ≡ (next_place (places h e.task).done (places h e.task).dropped e.action).done = ap (λ v. v.done) there in
          omega arith
      by_place None is x act =
          absurd (let none : (next_place (places h e.task).done None x).dropped ≡ Some q =
          ap (λ y. (next_place (places h e.task).done None y).dropped) (sym act)
          ∙ ap (λ o. (next_place (places h e.task).done o e.action).dropped) (sym is)
          ∙ ap (λ v. v.dropped) (sym there)
          ∙ dropped in
          cc)

  -- no plain run passes the await at which an avoided run refuses a task
  refused_as_far :
      (h : List Step) → IsAvoidedRun plan h → (g : List Step) → IsPlainRun plan g → (t q : ℕ) → (places h t).dropped ≡ Some q →
      done_by (places g) t ≤ suc (done_by (places h) t)
  refused_as_far [] run g run_g t q dropped = absurd (cc)
  refused_as_far (e ∷ h) run g run_g t q dropped =
      let before = refused_as_far h run.0 g run_g in
      elim (cases_eq t e.task) [
        | inl same ↦
            subst (λ v. done_by (places g) v ≤ suc (done_by (places (e ∷ h)) v)) (sym same)
            (refused_by h e run g run_g (before e.task) q (subst (λ v. (places (e ∷ h) v).dropped ≡ Some q) same dropped))
        | inr other ↦
            (let same_place = other_step e h t other in
            let l = before t q (ap (λ v. v.dropped) (sym same_place) ∙ dropped) in
            let same : done_by (places (e ∷ h)) t ≡ done_by (places h) t = ap (λ v. v.done) same_place in
            omega arith)
      ]

-- an avoided run h that has ended
module _ (plan : Plan) (checked : IsCheckedPlan plan) (h : List Step) (run_h : IsAvoidedRun plan h) (maximal : IsMaximal plan h) where
  at_h : (state_after h ≡ state_at plan (places h)) × IsConsistent plan (places h)
  at_h = places_fix plan checked h (avoided_legal plan h run_h)

  -- and a plain run g that has come no further
  module _ (g : List Step) (run_g : IsPlainRun plan g) (as_far : (u : ℕ) → done_by (places g) u ≤ furthest (places h u).done (places h u).dropped) where
    at_g : (state_after g ≡ state_at plan (places g)) × IsConsistent plan (places g)
    at_g = places_fix plan checked g run_g.0

    -- the places of g, with the tasks that h refuses put back before their blocks
    abbrev back : ℕ → Place
    back x = record { done = min (done_by (places g) x) (done_by (places h) x); dropped = None }

    back_is :
        (x : ℕ) →
        (done_by back x ≡ done_by (places g) x)
        ⊎ ((done_by (places g) x ≡ suc (done_by back x)) × ((aim : Aim) × action_at plan x (done_by back x) ≡ Some (Blocks aim)))
    back_is x = by_place (places h x).dropped refl (as_far x)
      where
        by_place :
            (o : Option ℕ) → (places h x).dropped ≡ o → done_by (places g) x ≤ furthest (places h x).done o →
            (done_by back x ≡ done_by (places g) x)
            ⊎ ((done_by (places g) x ≡ suc (done_by back x)) × ((aim : Aim) × action_at plan x (done_by back x) ≡ Some (Blocks aim)))
        by_place None is l = inl (omega arith)
        by_place (Some q) is l =
            elim (cases_lt (done_by (places h) x) (done_by (places g) x)) [
              | inl more ↦
                  let stands = at_h.1.refused x q is in
                  let same : done_by back x ≡ (places h x).done = omega arith in
                  inr (omega arith, (stands.1.0, ap (action_at plan x) same ∙ stands.1.1))
              | inr few ↦ inl (omega arith)
            ]

    -- what g has done and is no block is done at those places too
    done_too : (x j : ℕ) (y : Action) → action_at plan x j ≡ Some y → ((aim : Aim) → y ≢ Blocks aim) → j < done_by (places g) x → j < done_by back x
    done_too x j y next no_block l =
        elim (back_is x) [
          | inl same ↦ omega arith
          | inr one ↦
              elim (cases_eq j (done_by back x)) [
                | inl here ↦
                    absurd (no_block one.1.0 (let both : Some y ≡ Some (Blocks one.1.0) = sym next ∙ ap (action_at plan x) here ∙ one.1.1 in cc))
                | inr other ↦ (let more = one.0 in omega arith)
              ]
        ]

    forked_too : (x : ℕ) → forked_at plan (done_by (places g)) x ≡ true → forked_at plan (done_by back) x ≡ true
    forked_too x now =
        elim (forked_at_is plan (done_by (places g)) x now) [
          | inl root ↦ subst (λ v. forked_at plan (done_by back) v ≡ true) (sym root) (root_forked plan (done_by back))
          | inr fork ↦
              forked_at_from plan (done_by back) x fork.0 (done_too (parent_of plan x) fork.0 (Forks x) fork.2 (λ aim is. absurd (cc)) fork.1) fork.2
        ]

    made_too : (p : ℕ) → made_at plan (done_by (places g)) p ≡ true → made_at plan (done_by back) p ≡ true
    unfolding made_at
    made_too p made =
        let maker = maker_of plan p in
        let r = some_before_is (λ j. makes (action_at plan maker j) p) (done_by (places g) maker) made in
        some_before_from (λ j. makes (action_at plan maker j) p) (done_by back maker) r.0
        (done_too maker r.0 (Makes p) (makes_is (action_at plan maker r.0) p r.2) (λ aim is. absurd (cc)) r.1) r.2

    back_consistent : IsConsistent plan back
    back_consistent = record { begun = λ x pos. forked_too x (at_g.1.begun x (omega arith)); refused = λ x q dropped. absurd (cc) }

    back_before : ArePrefixes back (places h)
    back_before x = omega arith

    -- a block changes no phases
    after_same : (x : ℕ) → phases_after plan x (done_by back x) ≡ phases_after plan x (done_by (places g) x)
    after_same x =
        elim (back_is x) [
          | inl same ↦ ap (phases_after plan x) same
          | inr one ↦
              sym (ap (phases_after plan x) one.0
              ∙ phases_after-suc plan checked x (done_by back x)
              ∙ ap (λ o. own_step o (phases_after plan x (done_by back x))) one.1.1)
        ]

    registered_same : (u x : ℕ) → registered_by plan u x (done_by back u) ≡ registered_by plan u x (done_by (places g) u)
    registered_same u x =
        elim (back_is u) [
          | inl same ↦ ap (registered_by plan u x) same
          | inr one ↦
              sym (ap (registered_by plan u x) one.0
              ∙ registered_by-suc plan checked u x (done_by back u)
              ∙ ap (λ o. register_step o x (phases_after plan u (done_by back u)) (registered_by plan u x (done_by back u))) one.1.1)
        ]

    same_phases : (x p : ℕ) → (state_at plan back).phases x p ≡ (state_after g).phases x p
    same_phases x p =
        ap (λ m. m p) phases_same
        ∙ ap (λ o. kept o (phases_at plan (done_by (places g)) x) p) (sym (plain_undropped plan g run_g x))
        ∙ ap (λ s. s.phases x p) (sym at_g.0)
      where
        phases_same : phases_at plan (done_by back) x ≡ phases_at plan (done_by (places g)) x
        phases_same =
            elim (cases_Bool (forked_at plan (done_by (places g)) x)) [
              | inl now ↦
                  phases_forked plan checked (done_by back) x (forked_too x now)
                  ∙ after_same x
                  ∙ sym (phases_forked plan checked (done_by (places g)) x now)
              | inr idle ↦
                  let none : done_by (places g) x ≡ 0 = unforked_idle plan checked (places g) at_g.1 x idle in
                  let none_back : done_by back x ≡ 0 = omega arith in
                  phases_idle plan checked (done_by back) x none_back
                  ∙ registered_same (parent_of plan x) x
                  ∙ sym (phases_idle plan checked (done_by (places g)) x none)
            ]

    reached_too : (e : Event) → (state_after g).made e.p.0 ≡ true → IsReached (state_after g) e → IsReached (state_after h) e
    reached_too e made reached =
        subst (λ s. IsReached s e) (sym at_h.0)
        (reached_later plan checked back (places h) back_consistent at_h.1 back_before e.p.0 e.n
        (made_too e.p.0 (ap (λ s. s.made e.p.0) (sym at_g.0) ∙ made))
        (λ u m is. reached u m (sym (same_phases u e.p.0) ∙ is)))

    forked_in_h : (x : ℕ) → (state_after g).forked x ≡ true → (state_after h).forked x ≡ true
    forked_in_h x now =
        ap (λ s. s.forked x) at_h.0
        ∙ forked_later plan (done_by back) (done_by (places h)) x (λ u. omega arith) (forked_too x (ap (λ s. s.forked x) (sym at_g.0) ∙ now))

    -- a task that goes on in g does not stand at the same place where h has ended
    not_stuck :
        (e : Step) → IsPlainRun plan (e ∷ g) → (places h e.task).dropped ≡ None → done_by (places g) e.task ≡ done_by (places h) e.task → ⊥
    not_stuck e run undropped same =
        let t = e.task in
        let next : action_at plan t (places g t).done ≡ Some (in_code e.action) =
        by_code_next plan t (places g t).done (places g t).dropped e.action (plain_undropped plan g run_g t) run.0.1.by_code in
        elim (maximal t (forked_in_h t (acting_forked plan (state_after g) t e.action run.0.1.legal))) [
          | is_done no_next ↦ (let n : action_at plan t (places g t).done ≡ None = ap (action_at plan t) same ∙ no_next in absurd (cc))
          | is_waiting ev published unreached ↦
              let published_g : (state_after g).published t ≡ Some ev =
              ap (λ s. s.published t) at_g.0 ∙ ap (published_after plan t) same ∙ ap (λ s. s.published t) (sym at_h.0) ∙ published in
              let passes = only_passes plan (state_after g) t e.action ev run.0.1.legal published_g in
              let member = published_member plan g run_g.0 t ev published_g in
              let made = member_made plan g run_g.0 t ev.p.0 member.0 member.1 in
              unreached (reached_too ev made passes.1)
          | is_refused refused leaves ↦
              absurd (let none : (state_after h).refused t ≡ None = ap (λ s. s.refused t) at_h.0 ∙ ap (refused_at plan t (places h t).done) undropped in
              false≢true (subst IsSome none refused))
        ]

  pub as_far : (g : List Step) → IsPlainRun plan g → (t : ℕ) → done_by (places g) t ≤ furthest (places h t).done (places h t).dropped
  as_far [] run t = omega arith
  as_far (e ∷ g) run t =
      let before = as_far g (run.0.0, run.1.0) in
      elim (cases_eq t e.task) [
        | inl same ↦
            subst (λ v. done_by (places (e ∷ g)) v ≤ furthest (places h v).done (places h v).dropped) (sym same)
            (one_more g e run before (places h e.task).dropped refl)
        | inr other ↦
            (let l = before t in let same_place : done_by (places (e ∷ g)) t ≡ done_by (places g) t = ap (λ v. v.done) (other_step e g t other) in omega arith)
      ]
    where
      one_more :
          (g : List Step) (e : Step) → IsPlainRun plan (e ∷ g) → ((u : ℕ) → done_by (places g) u ≤ furthest (places h u).done (places h u).dropped) →
          (o : Option ℕ) → (places h e.task).dropped ≡ o → done_by (places (e ∷ g)) e.task ≤ furthest (places h e.task).done (places h e.task).dropped
      one_more g e run before (Some q) is =
          subst (λ o. done_by (places (e ∷ g)) e.task ≤ furthest (places h e.task).done o) (sym is)
          (refused_as_far plan checked h run_h (e ∷ g) run e.task q is)
      one_more g e run before None is =
          subst (λ o. done_by (places (e ∷ g)) e.task ≤ furthest (places h e.task).done o) (sym is)
          (let l : done_by (places g) e.task ≤ (places h e.task).done = subst (λ o. done_by (places g) e.task ≤ furthest (places h e.task).done o) is (before e.task) in
          let step : done_by (places (e ∷ g)) e.task ≡ suc (done_by (places g) e.task) = ap (λ v. v.done) (plain_step plan e g run) in
          elim (cases_lt (done_by (places g) e.task) (done_by (places h) e.task)) [
            | inl behind ↦ omega arith
            | inr level ↦ absurd (not_stuck g (run.0.0, run.1.0) before e run is (omega arith))
          ])

pub avoided_comes_as_far : AvoidedComesAsFar
avoided_comes_as_far plan h g t checked run_h maximal run_g = as_far plan checked h run_h maximal g run_g t

-- a task that is done where a plain run has ended
module _ (plan : Plan) (checked : IsCheckedPlan plan) (h : List Step) (run_h : IsAvoidedRun plan h) (maximal : IsMaximal plan h) (g : List Step)
    (run_g : IsPlainRun plan g) (t : ℕ) (forked : (state_after g).forked t ≡ true) (none : action_at plan t (places g t).done ≡ None) where
  fixed : (state_after h ≡ state_at plan (places h)) × IsConsistent plan (places h)
  fixed = places_fix plan checked h (avoided_legal plan h run_h)

  far : done_by (places g) t ≤ furthest (places h t).done (places h t).dropped
  far = as_far plan checked h run_h maximal g run_g t

  done_by_end : (x : TaskEnd) → Tells plan h t x → x ≡ Done
  done_by_end Done tells = refl
  done_by_end (Blocked e) tells =
      let published : published_after plan t (places h t).done ≡ Some e = ap (λ s. s.published t) (sym fixed.0) ∙ tells.0 in
      let undropped = published_undropped plan (places h) fixed.1 t e published in
      let l : done_by (places g) t ≤ (places h t).done = subst (λ o. done_by (places g) t ≤ furthest (places h t).done o) undropped far in
      let m = code_ends plan t (places g t).done (places h t).done (Passes e.p.0) none (published_passes plan t (places h t).done e published) in
      absurd (omega arith)
  done_by_end (Refused e) tells = absurd (by_place (places h t).dropped refl (ap (λ s. s.refused t) (sym fixed.0) ∙ tells.0) far)
    where
      by_place :
          (o : Option ℕ) → (places h t).dropped ≡ o → refused_at plan t (places h t).done o ≡ Some e →
          done_by (places g) t ≤ furthest (places h t).done o → ⊥
      by_place None is refused l = absurd (cc)
      by_place (Some q) is refused l =
          let stands = fixed.1.refused t q is in
          let m = code_ends plan t (places g t).done (suc (places h t).done) (Passes stands.1.0.phaser) none
          (passes_next plan t (places h t).done stands.1.0 stands.1.1) in
          omega arith
  done_by_end Unforked tells =
      absurd (let now = forked_in_h plan checked h run_h maximal g run_g (λ u. as_far plan checked h run_h maximal g run_g u) t forked in cc)

pub done_stays_done : DoneStaysDone
done_stays_done plan f s t checked final avoided done =
    let told : Tells plan final.steps t Done =
    subst (λ x. Tells plan final.steps t x) (ap (λ r. end_of r t) final.there ∙ done) (ends_tell plan final.steps t checked final.run.0 final.maximal) in
    ap (λ r. end_of r t) (sym avoided.there)
    ∙ done_by_end plan checked avoided.steps avoided.run avoided.maximal final.steps final.run t told.0 told.1
    (end_of (state_after avoided.steps) t)
    (ends_tell plan avoided.steps t checked (avoided_legal plan avoided.steps avoided.run) avoided.maximal)
