-- A task that is refused where an avoided run has ended is stuck in the final state, and dead where it is forked and only forked tasks are members.
use Rattle.std.proofs.Common.{◌≡◌, ◌≢◌, ℕ, zero, suc, ◌<◌, ◌≤◌, max, Bool, true, false, Option, Some, None, List, [], ◌∷◌, length, arith, sym, ◌∙◌, ap, subst, refl, ◌⊎◌, inl, inr}
use Rattle.std.specs.Prelude.{◌&&◌, ◌||◌, if◌then◌else◌, nat_lt, IsSome}
use Rattle.std.proofs.lemmas.Bool.Decides.{nat_tests}
use Rattle.std.proofs.lemmas.Bool.{and_from, cases_Bool, cases_eq, cases_lt, false≢true, lt-ltb, or_cases, or_left, or_right, and_parts}
use Rattle.armus_base.specs.declared.ending.TaskEnd.TheVariants.{Done}
use Rattle.armus_base.specs.declared.event.Event.{Event}
use Rattle.armus_base.specs.calls.AgreementLaws.{IsStuckIn, OnlyForkedMembers, RefusedWasDead, RefusedWasNotDone, RefusedWasStuck, furthest}
use Rattle.armus_base.specs.Avoidance.{Avoids, IsAvoidedRun}
use Rattle.armus_base.specs.CheckedPlans.{IsCheckedPlan}
use Rattle.armus_base.specs.Deadlocks.{IsAtPhase, IsDeadIn, IsDeadlockedSet, IsPublishedOn}
use Rattle.armus_base.specs.calls.FinalLaws.{Tells}
use Rattle.armus_base.specs.Finals.{end_by}
use Rattle.armus_base.specs.calls.Places.{IsConsistent}
use Rattle.armus_base.specs.Places.{done_by, forked_at, kept, made_at, makes, phases_after, phases_at, published_after, refused_at, registered_by, state_at}
use Rattle.armus_base.specs.Plans.{Action, Aim, Blocks, Drops, Forks, Makes, Passes, Plan, Refuses, action_at, in_code, maker_of, parent_of}
use Rattle.armus_base.specs.calls.Runs.{ArePrefixes, Precedes}
use Rattle.armus_base.specs.Runs.{IsByCode, IsLegalRun, IsMaximal, IsNextStep, IsPlainRun, Place, is_done, is_refused, is_waiting, next_place, places, state_after}
use Rattle.armus_base.specs.States.{IsReached, State, Step, event_at, updated}
use Rattle.armus_base.proofs.AvoidanceAgrees.{blocking, next_block, plain_unrefused}
use Rattle.armus_base.proofs.Codes.{maker_is, passes_next}
use Rattle.armus_base.proofs.ComesAsFar.{as_far, code_ends, done_stays_done}
use Rattle.armus_base.proofs.EarlierPlaces.{passed}
use Rattle.armus_base.proofs.EndsTell.{ends_tell}
use Rattle.armus_base.proofs.Fixed.{forked_at_from, forked_at_is, forked_later, makes_is, phases_after-suc, phases_after_idle, phases_forked, phases_idle, registered_by-suc, registered_full, root_forked, some_before_is}
use Rattle.armus_base.proofs.Members.{member_made, other_step, plain_undropped, published_member}
use Rattle.armus_base.proofs.NeverPassed.{not_passed}
use Rattle.armus_base.proofs.NobodyIsDead.{avoided_legal}
use Rattle.armus_base.proofs.Published.{published_after_is, published_passes, published_undropped, step_at_most}
use Rattle.armus_base.proofs.ReachedLater.{AtLeast, own_step_keeps, reached_later, register_step_keeps_at}
use Rattle.armus_base.proofs.Stepping.{places_fix}
use Rattle.armus_base.proofs.Steps.{updated_same}
use Rattle.armus_base.proofs.Tasks.{all_or_one, member_within}

-- From counts a to later counts b: where each task that moves had its phase on p at n or more, or none, it has so after it has moved.
module _ (plan : Plan) (checked : IsCheckedPlan plan) (p n : ℕ) (a b : ℕ → ℕ) (later : (x : ℕ) → a x ≤ b x)
    (begun_a : (x : ℕ) → 0 < a x → forked_at plan a x ≡ true) (begun_b : (x : ℕ) → 0 < b x → forked_at plan b x ≡ true)
    (made : made_at plan a p ≡ true) (movers : (x : ℕ) → a x < b x → AtLeast n (phases_at plan a x p)) where
  not_made_again : (t k : ℕ) → a t ≤ k → action_at plan t k ≢ Some (Makes p)
  unfolding made_at
  not_made_again t k l e =
      let maker = maker_of plan p in
      let r = some_before_is (λ j. makes (action_at plan maker j) p) (a maker) made in
      let w = checked.codes.well_formed t k (Makes p) e in
      let maker_t = maker_is plan t p w.0 in
      let j_before : r.0 < a t = subst (λ x. r.0 < a x) maker_t r.1 in
      w.1 r.0 (omega arith) (subst (λ x. action_at plan x r.0 ≡ Some (Makes p)) maker_t (makes_is (action_at plan maker r.0) p r.2))

  own_up : (t : ℕ) → AtLeast n (phases_after plan t (a t) p) → (k : ℕ) → a t ≤ k → AtLeast n (phases_after plan t k p)
  own_up t base zero l = subst (λ k. AtLeast n (phases_after plan t k p)) (let z : a t ≡ 0 = omega arith in z) base
  own_up t base (suc k) l =
      elim (cases_eq (a t) (suc k)) [
        | inl e ↦ subst (λ k. AtLeast n (phases_after plan t k p)) e base
        | inr ne ↦
            subst (λ m. AtLeast n (m p)) (sym (phases_after-suc plan checked t k))
            (own_step_keeps p n (action_at plan t k) (phases_after plan t k) (not_made_again t k (omega arith)) (own_up t base k (omega arith)))
      ]

  registered_up :
      (u t : ℕ) → ((k : ℕ) → a u ≤ k → AtLeast n (phases_after plan u k p)) → AtLeast n (registered_by plan u t (a u) p) →
      (k : ℕ) → a u ≤ k → AtLeast n (registered_by plan u t k p)
  registered_up u t own base zero l = subst (λ k. AtLeast n (registered_by plan u t k p)) (let z : a u ≡ 0 = omega arith in z) base
  registered_up u t own base (suc k) l =
      elim (cases_eq (a u) (suc k)) [
        | inl e ↦ subst (λ k. AtLeast n (registered_by plan u t k p)) e base
        | inr ne ↦
            subst (λ m. AtLeast n (m p)) (sym (registered_by-suc plan checked u t k))
            (register_step_keeps_at p n t (action_at plan u k) (phases_after plan u k) (registered_by plan u t k)
            (own k (omega arith)) (registered_up u t own base k (omega arith)))
      ]

  -- a task that was forked already
  old_moved : (t : ℕ) → a t < b t → forked_at plan a t ≡ true → (k : ℕ) → a t ≤ k → AtLeast n (phases_after plan t k p)
  old_moved t moves old = own_up t (subst (λ m. AtLeast n (m p)) (phases_forked plan checked a t old) (movers t moves))

  own_moved : (d t : ℕ) → t ≤ d → a t < b t → (k : ℕ) → a t ≤ k → AtLeast n (phases_after plan t k p)
  own_moved zero t l moves = old_moved t moves (subst (λ v. forked_at plan a v ≡ true) (let z : 0 ≡ t = omega arith in z) (root_forked plan a))
  own_moved (suc d) t l moves =
      elim (cases_Bool (forked_at plan a t)) [
        | inl old ↦ old_moved t moves old
        | inr new ↦
            let u = parent_of plan t in
            let z : a t ≡ 0 = elim (cases_eq (a t) 0) [
              | inl none ↦ none
              | inr some ↦ absurd (let now = begun_a t (omega arith) in cc)
            ] in
            let above : 0 < t = elim (cases_eq t 0) [
              | inl root ↦ absurd (let now : forked_at plan a t ≡ true = subst (λ v. forked_at plan a v ≡ true) (sym root) (root_forked plan a) in cc)
              | inr other ↦ omega arith
            ] in
            let first : u < t = checked.tables.parents_first t above in
            let base : AtLeast n (registered_by plan u t (a u) p) = subst (λ m. AtLeast n (m p)) (phases_idle plan checked a t z) (movers t moves) in
            let more = later u in
            let whole : AtLeast n (registered_by plan u t (b u) p) = elim (cases_lt (a u) (b u)) [
              | inl parent_moves ↦ registered_up u t (own_moved d u (omega arith) parent_moves) base (b u) more
              | inr parent_stays ↦ subst (λ k. AtLeast n (registered_by plan u t k p)) (let same : a u ≡ b u = omega arith in same) base
            ] in
            own_up t (subst (λ m. AtLeast n (m p)) (registered_full plan checked b t (begun_b t (omega arith)) ∙ phases_after_idle plan checked a t z) whole)
      ]

  moved_at_least : (t : ℕ) → a t < b t → AtLeast n (phases_after plan t (b t) p)
  moved_at_least t moves = own_moved t t (omega arith) moves (b t) (later t)

-- what a legal run has done stands in the code
refused_same : (k d : ℕ) (x : Action) → (next_place k (Some d) x).done ≡ k
refused_same k d (Drops p) = refl
refused_same k d x = refl

done_in_code : (plan : Plan) (h : List Step) → IsLegalRun plan h → (t j : ℕ) → j < done_by (places h) t → (x : Action) × action_at plan t j ≡ Some x
done_in_code plan [] run t j l = absurd (omega arith)
done_in_code plan (e ∷ h) run t j l =
    elim (cases_lt j (done_by (places h) t)) [
      | inl before ↦ done_in_code plan h run.0 t j before
      | inr now ↦
          elim (cases_eq t e.task) [
            | inr other ↦ absurd (let same = ap (λ v. v.done) (other_step e h t other) in omega arith)
            | inl same ↦
                let one : done_by (places (e ∷ h)) e.task ≤ suc (done_by (places h) e.task) = step_at_most e h in
                let s : done_by (places (e ∷ h)) t ≡ done_by (places (e ∷ h)) e.task = ap (done_by (places (e ∷ h))) same in
                let s' : done_by (places h) t ≡ done_by (places h) e.task = ap (done_by (places h)) same in
                let here : (places h e.task).done ≡ j = omega arith in
                by_place j here (omega arith) same (places h e.task).dropped refl run.1.by_code
          ]
    ]
  where
    by_place :
        (j : ℕ) → (places h e.task).done ≡ j → (places h e.task).done < done_by (places (e ∷ h)) e.task → t ≡ e.task → (o : Option ℕ) →
        (places h e.task).dropped ≡ o → IsByCode plan e.task (places h e.task).done (places h e.task).dropped e.action → (x : Action) × action_at plan t j ≡ Some x
    by_place j here more same None is code = (
      in_code e.action,
      ap (λ v. action_at plan v j) same
          ∙ ap (action_at plan e.task) (sym here)
          ∙ subst (λ o. IsByCode plan e.task (places h e.task).done o e.action) is code,
    )
    by_place j here more same (Some d) is code =
        absurd (let there : done_by (places (e ∷ h)) e.task ≡ (places h e.task).done =
        ap (λ v. v.done) (updated_same (places h) e.task e.task (next_place (places h e.task).done (places h e.task).dropped e.action) refl)
        ∙ ap (λ o. (next_place (places h e.task).done o e.action).done) is
        ∙ refused_same (places h e.task).done d e.action in
        omega arith)

-- how far a task may have come grows along a run
abbrev far_at : (ℕ → Place) → ℕ → ℕ
far_at a x = furthest (a x).done (a x).dropped

done_far : (k : ℕ) (o : Option ℕ) → k ≤ furthest k o
done_far k None = omega arith
done_far k (Some d) = omega arith

far_step : (k : ℕ) (o : Option ℕ) (x : Action) → furthest k o ≤ furthest (next_place k o x).done (next_place k o x).dropped
far_step k None (Refuses aim) = omega arith
far_step k None x = omega arith
far_step k (Some d) (Drops p) = omega arith
far_step k (Some d) x = omega arith

block_far : (k : ℕ) (o : Option ℕ) (aim : Aim) → (next_place k o (Blocks aim)).done ≤ furthest (next_place k o (Refuses aim)).done (next_place k o (Refuses aim)).dropped
block_far k None aim = omega arith
block_far k (Some d) aim = omega arith

far_later : (e : Step) (h : List Step) (x : ℕ) → far_at (places h) x ≤ far_at (places (e ∷ h)) x
far_later e h x =
    let next = next_place (places h e.task).done (places h e.task).dropped e.action in
    elim (cases_eq x e.task) [
      | inl same ↦
          subst (λ v. far_at (places h) v ≤ far_at (places (e ∷ h)) v) (sym same)
          (subst (λ v. far_at (places h) e.task ≤ furthest v.done v.dropped) (sym (updated_same (places h) e.task e.task next refl))
          (far_step (places h e.task).done (places h e.task).dropped e.action))
      | inr other ↦
          subst (λ v. far_at (places h) x ≤ furthest v.done v.dropped) (sym (other_step e h x other)) (omega arith)
    ]

-- the tasks that would have been dead where some task was refused
abbrev doomed_by : (s : State) (t : ℕ) (x : Action) → Avoids s t x → ℕ → Bool
doomed_by s t (Refuses aim) avoids u = avoids.2.tasks u
doomed_by s t x avoids u = false

abbrev doomed : (plan : Plan) (h : List Step) → IsAvoidedRun plan h → ℕ → Bool
doomed plan [] run u = false
doomed plan (e ∷ h) run u = doomed_by (state_after h) e.task e.action run.2 u || doomed plan h run.0 u

-- such a task stands in a set that is deadlocked after some run, which has come no further than may be
record IsDoomed (plan : Plan) (all_doomed : ℕ → Bool) (far : ℕ → ℕ) (u : ℕ) : Type 0 where
  steps : List Step
  run : IsLegalRun plan steps
  tasks : ℕ → Bool
  inside : tasks u ≡ true
  deadlocked : IsDeadlockedSet (IsPublishedOn (state_after steps)) (IsAtPhase (state_after steps)) tasks
  all : (w : ℕ) → tasks w ≡ true → all_doomed w ≡ true
  within : (w : ℕ) → done_by (places steps) w ≤ far w

doomed_now :
    (plan : Plan) (h : List Step) → IsLegalRun plan h → (t : ℕ) (x : Action) → IsNextStep plan h (record { task = t; action = x }) →
    (avoids : Avoids (state_after h) t x) (u : ℕ) → doomed_by (state_after h) t x avoids u ≡ true →
    IsDoomed plan (doomed_by (state_after h) t x avoids) (far_at (places (record { task = t; action = x } ∷ h))) u
doomed_now plan h legal t (Refuses aim) next avoids u now =
    record {
      steps = blocking t aim ∷ h;
      run = (legal, next_block plan h t aim next);
      tasks = avoids.2.tasks;
      inside = now;
      deadlocked =
          subst
          (λ o. IsDeadlockedSet (IsPublishedOn (record (state_after h) { published = updated (state_after h).published t o }))
          (IsAtPhase (record (state_after h) { published = updated (state_after h).published t o })) avoids.2.tasks)
          (sym avoids.1) avoids.2.deadlocked;
      all = λ w inside. inside;
      within = λ w. elim (cases_eq w t) [
        | inl same ↦
            subst (λ v. done_by (places (blocking t aim ∷ h)) v ≤ far_at (places (refusing ∷ h)) v) (sym same)
            (subst (λ v. v.done ≤ far_at (places (refusing ∷ h)) t) (sym (updated_same (places h) t t (next_place (places h t).done (places h t).dropped (Blocks aim)) refl))
            (subst (λ v. (next_place (places h t).done (places h t).dropped (Blocks aim)).done ≤ furthest v.done v.dropped)
            (sym (updated_same (places h) t t (next_place (places h t).done (places h t).dropped (Refuses aim)) refl))
            (block_far (places h t).done (places h t).dropped aim)))
        | inr other ↦
            subst (λ v. v.done ≤ far_at (places (refusing ∷ h)) w) (sym (other_step (blocking t aim) h w other))
            (subst (λ v. (places h w).done ≤ furthest v.done v.dropped) (sym (other_step refusing h w other))
            (done_far (places h w).done (places h w).dropped))
      ];
    }
  where
    refusing : Step
    refusing = record { task = t; action = Refuses aim }
doomed_now plan h legal t x next avoids u now = absurd (false≢true now)

doomed_is : (plan : Plan) (h : List Step) (run : IsAvoidedRun plan h) (u : ℕ) → doomed plan h run u ≡ true → IsDoomed plan (doomed plan h run) (far_at (places h)) u
doomed_is plan [] run u is = absurd (false≢true is)
doomed_is plan (e ∷ h) run u is =
    let new = doomed_by (state_after h) e.task e.action run.2 in
    let old = doomed plan h run.0 in
    elim (or_cases (new u) (old u) is) [
      | inl now ↦
          let r = doomed_now plan h (avoided_legal plan h run.0) e.task e.action run.1 run.2 u now in
          record {
            steps = r.steps;
            run = r.run;
            tasks = r.tasks;
            inside = r.inside;
            deadlocked = r.deadlocked;
            all = λ w inside. or_left (new w) (old w) (r.all w inside);
            within = r.within;
          }
      | inr before ↦
          let r = doomed_is plan h run.0 u before in
          record {
            steps = r.steps;
            run = r.run;
            tasks = r.tasks;
            inside = r.inside;
            deadlocked = r.deadlocked;
            all = λ w inside. or_right (new w) (old w) (r.all w inside);
            within = λ w. (let l = r.within w in let m = far_later e h w in omega arith);
          }
    ]

-- and whoever is refused is such a task
refused_now :
    (s : State) (t k : ℕ) (x : Action) (avoids : Avoids s t x) (o : Option ℕ) (q : ℕ) → (next_place k o x).dropped ≡ Some q →
    (doomed_by s t x avoids t ≡ true) ⊎ ((d : ℕ) × o ≡ Some d)
refused_now s t k (Refuses aim) avoids None q e = inl avoids.2.inside
refused_now s t k x avoids (Some d) q e = inr (d, refl)
refused_now s t k x avoids None q e = absurd (cc)

refused_doomed : (plan : Plan) (h : List Step) (run : IsAvoidedRun plan h) (t q : ℕ) → (places h t).dropped ≡ Some q → doomed plan h run t ≡ true
refused_doomed plan [] run t q dropped = absurd (cc)
refused_doomed plan (e ∷ h) run t q dropped =
    let new = doomed_by (state_after h) e.task e.action run.2 in
    let old = doomed plan h run.0 in
    elim (cases_eq t e.task) [
      | inr other ↦ or_right (new t) (old t) (refused_doomed plan h run.0 t q (ap (λ v. v.dropped) (sym (other_step e h t other)) ∙ dropped))
      | inl same ↦
          subst (λ v. (new v || old v) ≡ true) (sym same)
          (let next = next_place (places h e.task).done (places h e.task).dropped e.action in
          let there : next.dropped ≡ Some q =
          ap (λ v. v.dropped) (sym (updated_same (places h) e.task e.task next refl)) ∙ subst (λ v. (places (e ∷ h) v).dropped ≡ Some q) same dropped in
          elim (refused_now (state_after h) e.task (places h e.task).done e.action run.2 (places h e.task).dropped q there) [
            | inl now ↦ or_left (new e.task) (old e.task) now
            | inr before ↦ or_right (new e.task) (old e.task) (refused_doomed plan h run.0 e.task before.0 before.1)
          ])
    ]

-- who is chosen: a published task of which this is so
abbrev chosen : Option Event → Bool → Bool
chosen None b = false
chosen (Some e) b = b

chosen_is : (o : Option Event) (b : Bool) → chosen o b ≡ true → ((e : Event) × o ≡ Some e) × (b ≡ true)
chosen_is None b is = absurd (false≢true is)
chosen_is (Some e) b is = ((e, refl), is)

lt_is : (m n : ℕ) → nat_lt m n ≡ true → m < n
lt_is m n is = grind (arith, nat_tests)

-- a plain run g and an avoided run h, which both have ended
module _ (plan : Plan) (checked : IsCheckedPlan plan) (g : List Step) (run_g : IsPlainRun plan g) (maximal_g : IsMaximal plan g) (h : List Step)
    (run_h : IsAvoidedRun plan h) (maximal_h : IsMaximal plan h) where
  at_g : (state_after g ≡ state_at plan (places g)) × IsConsistent plan (places g)
  at_g = places_fix plan checked g run_g.0

  at_h : (state_after h ≡ state_at plan (places h)) × IsConsistent plan (places h)
  at_h = places_fix plan checked h (avoided_legal plan h run_h)

  far : (x : ℕ) → done_by (places g) x ≤ far_at (places h) x
  far x = as_far plan checked h run_h maximal_h g run_g x

  far_refused : (x q : ℕ) → (places h x).dropped ≡ Some q → done_by (places g) x ≤ suc (done_by (places h) x)
  far_refused x q is = subst (λ o. done_by (places g) x ≤ furthest (places h x).done o) is (far x)

  -- a refused task is not done in g
  refused_goes_on : (x q : ℕ) → (places h x).dropped ≡ Some q → action_at plan x (places g x).done ≡ None → ⊥
  refused_goes_on x q is none =
      let stands = at_h.1.refused x q is in
      let l = far_refused x q is in
      let m = code_ends plan x (places g x).done (suc (places h x).done) (Passes stands.1.0.phaser) none
      (passes_next plan x (places h x).done stands.1.0 stands.1.1) in
      omega arith

  published_g : (u : ℕ) (e : Event) → (state_after g).published u ≡ Some e → published_after plan u (done_by (places g) u) ≡ Some e
  published_g u e is = ap (λ s. s.published u) (sym at_g.0) ∙ is

  -- the phases of a forked task in g
  phases_g : (x p : ℕ) → (state_after g).forked x ≡ true → (state_after g).phases x p ≡ phases_after plan x (done_by (places g) x) p
  phases_g x p now =
      ap (λ s. s.phases x p) at_g.0
      ∙ ap (λ o. kept o (phases_at plan (done_by (places g)) x) p) (plain_undropped plan g run_g x)
      ∙ ap (λ m. m p) (phases_forked plan checked (done_by (places g)) x (ap (λ s. s.forked x) (sym at_g.0) ∙ now))

  -- the tasks of g that wait, and go on in h or would have been dead in it
  in_set : ℕ → Bool
  in_set u = chosen ((state_after g).published u) (nat_lt (done_by (places g) u) (done_by (places h) u) || doomed plan h run_h u)

  in_set_from :
      (u : ℕ) (e : Event) → (state_after g).published u ≡ Some e →
      (done_by (places g) u < done_by (places h) u) ⊎ (doomed plan h run_h u ≡ true) → in_set u ≡ true
  unfolding in_set
  in_set_from u e published why =
      ap (λ o. chosen o (nat_lt (done_by (places g) u) (done_by (places h) u) || doomed plan h run_h u)) published
      ∙ elim why [
        | inl more ↦ or_left (nat_lt (done_by (places g) u) (done_by (places h) u)) (doomed plan h run_h u) (lt-ltb (done_by (places g) u) (done_by (places h) u) more)
        | inr would ↦ or_right (nat_lt (done_by (places g) u) (done_by (places h) u)) (doomed plan h run_h u) would
      ]

  in_set_is :
      (u : ℕ) → in_set u ≡ true →
      ((e : Event) × (state_after g).published u ≡ Some e) × ((done_by (places g) u < done_by (places h) u) ⊎ (doomed plan h run_h u ≡ true))
  unfolding in_set
  in_set_is u inside =
      let is = chosen_is ((state_after g).published u) (nat_lt (done_by (places g) u) (done_by (places h) u) || doomed plan h run_h u) inside in (
        is.0,
        elim (or_cases (nat_lt (done_by (places g) u) (done_by (places h) u)) (doomed plan h run_h u) is.1) [
          | inl more ↦ inl (lt_is (done_by (places g) u) (done_by (places h) u) more)
          | inr would ↦ inr would
        ],
      )

  -- a forked task that is not among them does not go on in h
  stays_there : (x : ℕ) → (state_after g).forked x ≡ true → (in_set x ≡ true → ⊥) → ((places h x).dropped ≡ None) × (done_by (places h) x ≤ done_by (places g) x)
  stays_there x now outside =
      elim (maximal_g x now) [
        | is_done none ↦ (
          undropped (places h x).dropped refl (λ q is. refused_goes_on x q is none),
          elim (cases_lt (done_by (places g) x) (done_by (places h) x)) [
            | inl more ↦ absurd (let some = (done_in_code plan h (avoided_legal plan h run_h) x (done_by (places g) x) more).1 in cc)
            | inr few ↦ few
          ],
        )
        | is_waiting e published unreached ↦ (
          undropped (places h x).dropped refl (λ q is. outside (in_set_from x e published (inr (refused_doomed plan h run_h x q is)))),
          elim (cases_lt (done_by (places g) x) (done_by (places h) x)) [
            | inl more ↦ absurd (outside (in_set_from x e published (inl more)))
            | inr few ↦ few
          ],
        )
        | is_refused refused left ↦ absurd (false≢true (subst IsSome (plain_unrefused plan checked g run_g x) refused))
      ]
    where
      undropped : (o : Option ℕ) → (places h x).dropped ≡ o → ((q : ℕ) → (places h x).dropped ≡ Some q → ⊥) → (places h x).dropped ≡ None
      undropped None is never = is
      undropped (Some q) is never = absurd (never q is)

  -- the places of h, and those of g where these are later, but the refused tasks where they are
  abbrev settle : ℕ → Option ℕ → ℕ → Place
  settle k None j = record { done = max k j; dropped = None }
  settle k (Some q) j = record { done = k; dropped = Some q }

  abbrev settled : ℕ → Place
  settled x = settle (places h x).done (places h x).dropped (done_by (places g) x)

  settle_later : (k : ℕ) (o : Option ℕ) (j : ℕ) → Precedes k o (settle k o j).done (settle k o j).dropped
  settle_later k None j = omega arith
  settle_later k (Some q) j = (refl, omega arith)

  settle_more : (k : ℕ) (o : Option ℕ) (j : ℕ) → k ≤ (settle k o j).done
  settle_more k None j = omega arith
  settle_more k (Some q) j = omega arith

  settle_same : (k : ℕ) (o : Option ℕ) (j : ℕ) → o ≡ None → k ≤ j → settle k o j ≡ record { done = j; dropped = None }
  settle_same k None j is l = ap (λ i. settled_at i) (let e : max k j ≡ j = omega arith in e)
    where
      settled_at : ℕ → Place
      settled_at i = record { done = i; dropped = None }
  settle_same k (Some q) j is l = absurd (cc)

  settle_dropped : (k : ℕ) (o : Option ℕ) (j q : ℕ) → (settle k o j).dropped ≡ Some q → (o ≡ Some q) × ((settle k o j).done ≡ k)
  settle_dropped k None j q is = absurd (cc)
  settle_dropped k (Some r) j q is = (is, refl)

  -- an action of g that is no block is done there
  settle_done :
      (x j : ℕ) (y : Action) → action_at plan x j ≡ Some y → ((aim : Aim) → y ≢ Blocks aim) → j < done_by (places g) x → j < done_by settled x
  settle_done x j y next no_block l = by_place (places h x).dropped refl
    where
      by_place : (o : Option ℕ) → (places h x).dropped ≡ o → j < (settle (places h x).done (places h x).dropped (done_by (places g) x)).done
      by_place None is = subst (λ o. j < (settle (places h x).done o (done_by (places g) x)).done) (sym is) (omega arith)
      by_place (Some q) is =
          subst (λ o. j < (settle (places h x).done o (done_by (places g) x)).done) (sym is)
          (let m = far_refused x q is in
          let stands = at_h.1.refused x q is in
          elim (cases_eq j (places h x).done) [
            | inl here ↦
                absurd (no_block stands.1.0 (let both : Some y ≡ Some (Blocks stands.1.0) = sym next ∙ ap (action_at plan x) here ∙ stands.1.1 in cc))
            | inr other ↦ omega arith
          ])

  settled_from_h : (x : ℕ) → forked_at plan (done_by (places h)) x ≡ true → forked_at plan (done_by settled) x ≡ true
  settled_from_h x now =
      forked_later plan (done_by (places h)) (done_by settled) x (λ u. settle_more (places h u).done (places h u).dropped (done_by (places g) u)) now

  settled_from_g : (x : ℕ) → forked_at plan (done_by (places g)) x ≡ true → forked_at plan (done_by settled) x ≡ true
  settled_from_g x now =
      elim (forked_at_is plan (done_by (places g)) x now) [
        | inl root ↦ subst (λ v. forked_at plan (done_by settled) v ≡ true) (sym root) (root_forked plan (done_by settled))
        | inr fork ↦
            forked_at_from plan (done_by settled) x fork.0 (settle_done (parent_of plan x) fork.0 (Forks x) fork.2 (λ aim is. absurd (cc)) fork.1) fork.2
      ]

  settle_begun : (x : ℕ) → 0 < done_by settled x → (0 < done_by (places h) x) ⊎ (0 < done_by (places g) x)
  settle_begun x pos = by_place (places h x).dropped pos
    where
      by_place : (o : Option ℕ) → 0 < (settle (places h x).done o (done_by (places g) x)).done → (0 < done_by (places h) x) ⊎ (0 < done_by (places g) x)
      by_place (Some q) pos = inl pos
      by_place None pos =
          elim (cases_eq (done_by (places h) x) 0) [
            | inl z ↦ inr (omega arith)
            | inr n ↦ inl (omega arith)
          ]

  settled_consistent : IsConsistent plan settled
  settled_consistent =
      record {
        begun = λ x pos. elim (settle_begun x pos) [
          | inl begun ↦ settled_from_h x (at_h.1.begun x begun)
          | inr begun ↦ settled_from_g x (at_g.1.begun x begun)
        ];
        refused = λ x q is.
            let was = settle_dropped (places h x).done (places h x).dropped (done_by (places g) x) q is in
            let stands = at_h.1.refused x q was.0 in
            (settled_from_h x stands.0, (stands.1.0, ap (action_at plan x) was.1 ∙ stands.1.1));
      }

  settled_later : ArePrefixes (places h) settled
  settled_later x = settle_later (places h x).done (places h x).dropped (done_by (places g) x)

  -- one of them, or a task that g leaves unforked
  abbrev IsStuck : ℕ → Type 0
  IsStuck w = (in_set w ≡ true) ⊎ ((state_after g).forked w ≡ false)

  stuck_or_not : (w : ℕ) → IsStuck w ⊎ (((state_after g).forked w ≡ true) × (in_set w ≡ true → ⊥))
  stuck_or_not w =
      elim (cases_Bool ((state_after g).forked w)) [
        | inr idle ↦ inl (inr idle)
        | inl now ↦
            elim (cases_Bool (in_set w)) [
              | inl inside ↦ inl (inl inside)
              | inr outside ↦ inr (now, λ inside. absurd (cc))
            ]
      ]

  -- an event that is impeded in g by none of these
  module _ (e : Event) (free : (w m : ℕ) → (state_after g).phases w e.p.0 ≡ Some m → IsStuck w → e.n ≤ m) where
    -- if h had passed it, it were reached in g
    not_passed_in_h : (state_after h).made e.p.0 ≡ true → IsReached (state_after h) e → IsReached (state_after g) e
    not_passed_in_h made reached w m is =
        elim (stuck_or_not w) [
          | inl stuck ↦ free w m is stuck
          | inr goes ↦
              let now = goes.0 in
              let stays = stays_there w now goes.1 in
              let there = settle_same (places h w).done (places h w).dropped (done_by (places g) w) stays.0 stays.1 in
              let all : IsReached (state_at plan settled) (event_at e.p.0 e.n) =
              reached_later plan checked (places h) settled at_h.1 settled_consistent settled_later e.p.0 e.n
              (subst (λ s. s.made e.p.0 ≡ true) at_h.0 made) (subst (λ s. IsReached s (event_at e.p.0 e.n)) at_h.0 reached) in
              all w m
              (ap (λ v. kept v.dropped (phases_at plan (done_by settled) w) e.p.0) there
              ∙ ap (λ f. f e.p.0) (phases_forked plan checked (done_by settled) w (settled_from_g w (ap (λ s. s.forked w) (sym at_g.0) ∙ now)))
              ∙ ap (λ v. phases_after plan w v.done e.p.0) there
              ∙ sym (phases_g w e.p.0 now)
              ∙ is)
        ]

    -- and none of a set that would have been dead impedes it
    not_impeded :
        (made_at plan (done_by (places g)) e.p.0 ≡ true) → (u : ℕ) (d : IsDoomed plan (doomed plan h run_h) (far_at (places h)) u) →
        (w m : ℕ) → d.tasks w ≡ true → (state_after d.steps).phases w e.p.0 ≡ Some m → m < e.n → ⊥
    not_impeded made u d w m inside phase below =
        let k = d.steps in
        let at_k = places_fix plan checked k d.run in
        let held = d.deadlocked.each w inside in
        let published : published_after plan w (done_by (places k) w) ≡ Some held.event = ap (λ s. s.published w) (sym at_k.0) ∙ held.waits in
        let undropped = published_undropped plan (places k) at_k.1 w held.event published in
        let begun : 0 < done_by (places k) w = (let is = (published_after_is plan w (done_by (places k) w) held.event published).1 in omega arith) in
        let phase_k : phases_after plan w (done_by (places k) w) e.p.0 ≡ Some m =
        ap (λ f. f e.p.0) (sym (phases_forked plan checked (done_by (places k)) w (at_k.1.begun w begun)))
        ∙ ap (λ o. kept o (phases_at plan (done_by (places k)) w) e.p.0) (sym undropped)
        ∙ ap (λ s. s.phases w e.p.0) (sym at_k.0)
        ∙ phase in
        let l = not_passed plan checked k d.run d.tasks d.deadlocked g run_g w inside in
        elim (cases_lt (done_by (places g) w) (done_by (places k) w)) [
          | inr level ↦
              let same : done_by (places g) w ≡ done_by (places k) w = omega arith in
              let now : (state_after g).forked w ≡ true = ap (λ s. s.forked w) at_g.0 ∙ at_g.1.begun w (omega arith) in
              let phase_g : (state_after g).phases w e.p.0 ≡ Some m = phases_g w e.p.0 now ∙ ap (λ j. phases_after plan w j e.p.0) same ∙ phase_k in
              let published_here : (state_after g).published w ≡ Some held.event =
              ap (λ s. s.published w) at_g.0 ∙ ap (published_after plan w) same ∙ published in
              let above = free w m phase_g (inl (in_set_from w held.event published_here (inr (d.all w inside)))) in
              omega arith
          | inl moves ↦
              let b : ℕ → ℕ = λ x. max (done_by (places g) x) (done_by (places k) x) in
              let above : AtLeast e.n (phases_after plan w (b w) e.p.0) =
              moved_at_least plan checked e.p.0 e.n (done_by (places g)) b (λ x. omega arith) at_g.1.begun (begun_b k d.run) made (movers k d.within) w (omega arith) in
              let there : b w ≡ done_by (places k) w = omega arith in
              let n = above m (ap (λ j. phases_after plan w j e.p.0) there ∙ phase_k) in
              omega arith
        ]
      where
        begun_b :
            (k : List Step) → IsLegalRun plan k → (x : ℕ) → 0 < max (done_by (places g) x) (done_by (places k) x) →
            forked_at plan (λ y. max (done_by (places g) y) (done_by (places k) y)) x ≡ true
        begun_b k run x pos =
            elim (cases_eq (done_by (places g) x) 0) [
              | inl z ↦
                  forked_later plan (done_by (places k)) (λ y. max (done_by (places g) y) (done_by (places k) y)) x (λ u. omega arith)
                  ((places_fix plan checked k run).1.begun x (omega arith))
              | inr n ↦
                  forked_later plan (done_by (places g)) (λ y. max (done_by (places g) y) (done_by (places k) y)) x (λ u. omega arith)
                  (at_g.1.begun x (omega arith))
            ]

        movers :
            (k : List Step) → ((x : ℕ) → done_by (places k) x ≤ far_at (places h) x) → (x : ℕ) →
            done_by (places g) x < max (done_by (places g) x) (done_by (places k) x) → AtLeast e.n (phases_at plan (done_by (places g)) x e.p.0)
        movers k within x moves m is =
            let phase : (state_after g).phases x e.p.0 ≡ Some m =
            ap (λ s. s.phases x e.p.0) at_g.0 ∙ ap (λ o. kept o (phases_at plan (done_by (places g)) x) e.p.0) (plain_undropped plan g run_g x) ∙ is in
            elim (stuck_or_not x) [
              | inl stuck ↦ free x m phase stuck
              | inr goes ↦
                  absurd (let stays = stays_there x goes.0 goes.1 in
                  let l : done_by (places k) x ≤ done_by (places h) x = subst (λ o. done_by (places k) x ≤ furthest (places h x).done o) stays.0 (within x) in
                  let fewer = stays.1 in
                  omega arith)
            ]

  -- each of these tasks is impeded by one of them, or by an unforked one
  abbrev Impeded : Event → ℕ → Type 0
  Impeded e w = (m : ℕ) × ((state_after g).phases w e.p.0 ≡ Some m) × (m < e.n) × IsStuck w

  abbrev Free : Event → ℕ → Type 0
  Free e w = (m : ℕ) → (state_after g).phases w e.p.0 ≡ Some m → IsStuck w → e.n ≤ m

  free_or_impeded : (e : Event) (w : ℕ) → Free e w ⊎ Impeded e w
  free_or_impeded e w = by_phase ((state_after g).phases w e.p.0) refl
    where
      by_phase : (o : Option ℕ) → (state_after g).phases w e.p.0 ≡ o → Free e w ⊎ Impeded e w
      by_phase None is = inl (λ m same stuck. absurd (cc))
      by_phase (Some m) is =
          elim (cases_lt m e.n) [
            | inr above ↦ inl (λ k same stuck. (let both : m ≡ k = (let some : Some m ≡ Some k = sym is ∙ same in cc) in omega arith))
            | inl below ↦
                elim (stuck_or_not w) [
                  | inl stuck ↦ inr (m, is, below, stuck)
                  | inr goes ↦ inl (λ k same stuck. elim stuck [ inl inside ↦ absurd (goes.1 inside) | inr idle ↦ absurd (let now = goes.0 in cc) ])
                ]
          ]

  never_free : (u : ℕ) (e : Event) → (state_after g).published u ≡ Some e → in_set u ≡ true → ((w : ℕ) → Free e w) → ⊥
  never_free u e published inside free =
      let tells : Tells plan g u (end_by ((state_after g).forked u) (Some e) ((state_after g).refused u)) =
      subst (λ o. Tells plan g u (end_by ((state_after g).forked u) o ((state_after g).refused u))) published
      (ends_tell plan g u checked run_g.0 maximal_g) in
      let member = published_member plan g run_g.0 u e published in
      let made = member_made plan g run_g.0 u e.p.0 member.0 member.1 in
      elim (cases_lt (done_by (places g) u) (done_by (places h) u)) [
        | inl more ↦
            let r = passed plan checked h (avoided_legal plan h run_h) u (done_by (places g) u) e (published_g u e published) more in
            tells.1 (not_passed_in_h e free r.0 r.1)
        | inr few ↦
            let would : doomed plan h run_h u ≡ true = elim ((in_set_is u inside).1) [ inl more ↦ absurd (omega arith) | inr is ↦ is ] in
            let d = doomed_is plan h run_h u would in
            let here : done_by (places g) u ≡ done_by (places d.steps) u =
            same_place u e published few (done_by (places d.steps) u) (d.within u) (not_passed plan checked d.steps d.run d.tasks d.deadlocked g run_g u d.inside) in
            let held = d.deadlocked.each u d.inside in
            let at_k = places_fix plan checked d.steps d.run in
            let same : e ≡ held.event =
            (let both : Some e ≡ Some held.event =
            sym (published_g u e published) ∙ ap (published_after plan u) here ∙ ap (λ s. s.published u) (sym at_k.0) ∙ held.waits in
            cc) in
            let below = held.below in
            not_impeded e free (ap (λ s. s.made e.p.0) (sym at_g.0) ∙ made) u d held.by held.phase held.inside
            (subst (λ v. (state_after d.steps).phases held.by v.p.0 ≡ Some held.phase) (sym same) held.impedes)
            (subst (λ v. held.phase < v.n) (sym same) below)
      ]
    where
      -- a task that does not go on in h stands in g where it would have been dead
      same_place :
          (u : ℕ) (e : Event) → (state_after g).published u ≡ Some e → done_by (places h) u ≤ done_by (places g) u → (k : ℕ) →
          k ≤ far_at (places h) u → done_by (places g) u ≤ k → done_by (places g) u ≡ k
      same_place u e published few k within l = by_place (places h u).dropped refl within
        where
          by_place : (o : Option ℕ) → (places h u).dropped ≡ o → k ≤ furthest (places h u).done o → done_by (places g) u ≡ k
          by_place None is within = omega arith
          by_place (Some q) is within =
              let stands = at_h.1.refused u q is in
              elim (cases_eq (done_by (places g) u) (done_by (places h) u)) [
                | inr other ↦ omega arith
                | inl same ↦
                    absurd (let blocks : action_at plan u (done_by (places g) u) ≡ Some (Blocks stands.1.0) = ap (action_at plan u) same ∙ stands.1.1 in
                    let passes = published_passes plan u (done_by (places g) u) e (published_g u e published) in
                    cc)
              ]

  impeded : (u : ℕ) (e : Event) → (state_after g).published u ≡ Some e → in_set u ≡ true → (w : ℕ) × Impeded e w
  impeded u e published inside =
      elim (all_or_one (Free e) (Impeded e) (free_or_impeded e) (length plan.parents)) [
        | inr one ↦ (one.0, one.2)
        | inl all ↦ absurd (never_free u e published inside (λ w m is. all w (member_within plan checked g run_g.0 w e.p.0 m is) m is))
      ]

  -- a refused task is one of these
  refused_in_set : (t q : ℕ) → (places h t).dropped ≡ Some q → (state_after g).forked t ≡ true → in_set t ≡ true
  refused_in_set t q is now =
      elim (maximal_g t now) [
        | is_done none ↦ absurd (refused_goes_on t q is none)
        | is_waiting e published unreached ↦ in_set_from t e published (inr (refused_doomed plan h run_h t q is))
        | is_refused refused left ↦ absurd (false≢true (subst IsSome (plain_unrefused plan checked g run_g t) refused))
      ]

  -- the set of these tasks and of all unforked ones
  stuck_set : ℕ → Bool
  stuck_set w = if (state_after g).forked w then in_set w else true

  stuck_from : (w : ℕ) → IsStuck w → stuck_set w ≡ true
  unfolding stuck_set
  stuck_from w stuck =
      elim (cases_Bool ((state_after g).forked w)) [
        | inr idle ↦ ap (λ b. if b then in_set w else true) idle
        | inl now ↦
            ap (λ b. if b then in_set w else true) now
            ∙ elim stuck [ inl inside ↦ inside | inr idle ↦ absurd (cc) ]
      ]

  stuck_inside : (w : ℕ) → stuck_set w ≡ true → (state_after g).forked w ≡ true → in_set w ≡ true
  unfolding stuck_set
  stuck_inside w inside now = sym (ap (λ b. if b then in_set w else true) now) ∙ inside

  refused_is_stuck : (t q : ℕ) → (places h t).dropped ≡ Some q → IsStuckIn (state_after g) t
  refused_is_stuck t q is = (
    stuck_set,
    stuck_from t (elim (cases_Bool ((state_after g).forked t)) [ inl now ↦ inl (refused_in_set t q is now) | inr idle ↦ inr idle ]),
    λ u inside.
        elim (cases_Bool ((state_after g).forked u)) [
          | inr idle ↦ inl idle
          | inl now ↦
              let there = stuck_inside u inside now in
              let published = (in_set_is u there).0 in
              let by = impeded u published.0 published.1 there in
              inr (record {
                event = published.0;
                waits = published.1;
                by = by.0;
                inside = stuck_from by.0 by.1.3;
                phase = by.1.0;
                impedes = by.1.1;
                below = by.1.2;
              })
        ],
  )

-- whoever is refused after a run stands at such a place
pub refused_dropped :
    (plan : Plan) → IsCheckedPlan plan → (h : List Step) → IsLegalRun plan h → (t : ℕ) → IsSome ((state_after h).refused t) → (q : ℕ) × (places h t).dropped ≡ Some q
refused_dropped plan checked h run t some = by_place (places h t).dropped refl
  where
    by_place : (o : Option ℕ) → (places h t).dropped ≡ o → (q : ℕ) × (places h t).dropped ≡ Some q
    by_place (Some q) is = (q, is)
    by_place None is =
        absurd (let none : (state_after h).refused t ≡ None =
        ap (λ s. s.refused t) ((places_fix plan checked h run).0) ∙ ap (refused_at plan t (places h t).done) is in
        false≢true (subst IsSome none some))

pub refused_was_stuck : RefusedWasStuck
refused_was_stuck plan f s t checked final avoided refused =
    let q = refused_dropped plan checked avoided.steps (avoided_legal plan avoided.steps avoided.run) t
    (subst (λ r. IsSome (r.refused t)) (sym avoided.there) refused) in
    subst (λ r. IsStuckIn r t) final.there
    (refused_is_stuck plan checked final.steps final.run final.maximal avoided.steps avoided.run avoided.maximal t q.0 q.1)

-- the forked tasks of a stuck set, where only forked tasks are members
abbrev forked_among : State → (ℕ → Bool) → ℕ → Bool
forked_among s tasks u = s.forked u && tasks u

pub stuck_is_dead : (s : State) (t : ℕ) → OnlyForkedMembers s → IsStuckIn s t → s.forked t ≡ true → IsDeadIn s t
stuck_is_dead s t only_forked stuck now =
    let inside : forked_among s stuck.0 t ≡ true = and_from (s.forked t) (stuck.0 t) now stuck.1 in
    record {
      tasks = forked_among s stuck.0;
      inside = inside;
      deadlocked =
          record {
            some = (t, inside);
            each = λ u there.
                let is = and_parts (s.forked u) (stuck.0 u) there in
                elim (stuck.2 u is.1) [
                  | inl idle ↦ absurd (let forked = is.0 in cc)
                  | inr held ↦
                      record {
                        event = held.event;
                        waits = held.waits;
                        by = held.by;
                        inside =
                            and_from (s.forked held.by) (stuck.0 held.by)
                            (only_forked held.by held.event.p.0 held.phase held.impedes) held.inside;
                        phase = held.phase;
                        impedes = held.impedes;
                        below = held.below;
                      }
                ];
          };
    }

pub refused_was_dead : RefusedWasDead
refused_was_dead plan f s t checked final avoided only_forked refused now =
    stuck_is_dead f t only_forked (refused_was_stuck plan f s t checked final avoided refused) now

-- whoever is refused has not ended as one that is done
refused_not_done : (b : Bool) (p r : Option Event) → IsSome r → end_by b p r ≡ Done → ⊥
refused_not_done b (Some e) r some is = absurd (cc)
refused_not_done b None (Some e) some is = absurd (cc)
refused_not_done b None None some is = absurd (false≢true some)

pub refused_was_not_done : RefusedWasNotDone
refused_was_not_done plan f s t checked final avoided refused done =
    refused_not_done (s.forked t) (s.published t) (s.refused t) refused (done_stays_done plan f s t checked final avoided done)
