-- What holds of a state of the unfolding while task t is unfolded, and how it is kept while the plan grows.
use Rattle.std.proofs.Common.{◌≡◌, ◌≢◌, ℕ, ◌+◌, ◌-◌, ◌<◌, ◌≤◌, Bool, true, false, Option, Some, None, List, [], length, arith, sym, ◌∙◌, ap, subst, refl, inl, inr, ◌⊎◌}
use Rattle.std.specs.Prelude.{slice_get, slice_index_or, is_some}
use Rattle.std.proofs.lemmas.Bool.{cases_lt, cases_eq, false≢true}
use Rattle.std.proofs.lemmas.List.{length-append}
use Rattle.armus_base.specs.Plans.{Action, Makes, Forks, Plan, action_at, actions, parent_of, maker_of}
use Rattle.armus_base.specs.Places.{first_phases, phases_after, own_phases}
use Rattle.armus_base.specs.calls.CheckedPlans.{Grows, IsSoundGrowth}
use Rattle.armus_base.specs.CheckedPlans.{HasFork, HasTables, IsCheckedPlan, IsWellFormed, IsWithinLimits}
use Rattle.armus_base.proofs.Codes.{child_within, phaser_within}
use Rattle.armus_base.proofs.Fixed.{action_within}
use Rattle.armus_base.proofs.PlanGrows.{plan_grows, parents_same, other_at, own_at}
use Rattle.pl_syntax.specs.calls.Tree.{AreNear}
use Rattle.pl_plan.specs.Unfolding.{UnfoldingState, Start}
use Rattle.pl_plan.proofs.Growth.{own_steps, register_steps, last_phases, new_at, last_grown, first_grown, first_kept}

-- no task above t has a code yet, and none of them has drawn a task or made a phaser
pub record IsAt (t : ℕ) (plan : Plan) : Type 0 where
  pub later : (u : ℕ) → t < u → actions plan u ≡ []
  pub parents : (c : ℕ) → parent_of plan c ≤ t
  pub makers : (p : ℕ) → maker_of plan p ≤ t

-- a task is forked
abbrev pub is_begun : UnfoldingState → ℕ → Bool
is_begun s c = is_some (slice_index_or s.starts c None)

-- no await of the body with which a task was forked looks farther than it may
abbrev pub NearStart : Option Start → Type 0
NearStart None = Unit {0}
NearStart (Some start) = AreNear start.body

-- The plan so far is checked, exactly the forked tasks have a start, and the members of phasers are those that the plan fixes: for the current task
-- after all its actions, for a later one with what it is registered so far.
pub record IsSound (t : ℕ) (s : UnfoldingState) : Type 0 where
  pub checked : IsCheckedPlan s.plan
  pub at : IsAt t s.plan
  pub starts : length s.starts ≡ length s.plan.parents
  pub forked : (c : ℕ) → 0 < c → is_begun s c ≡ true → HasFork s.plan c
  pub unforked : (c j : ℕ) → is_begun s c ≡ false → action_at s.plan (parent_of s.plan c) j ≢ Some (Forks c)
  pub members : (u p : ℕ) → t ≤ u → u < length s.plan.parents → s.members u p ≡ is_some (last_phases s.plan u p)
  pub outside : (u p : ℕ) → length s.plan.parents ≤ u → s.members u p ≡ false
  pub near : (c : ℕ) → NearStart (slice_index_or s.starts c None)

-- the same while task t, which is forked, acts
pub record IsActing (t : ℕ) (s : UnfoldingState) : Type 0 where
  pub sound : IsSound t s
  pub here : t < length s.plan.parents
  pub begun : is_begun s t ≡ true

-- what is to be checked of a task's new actions, and of its new phasers and tasks
pub record IsNew (t : ℕ) (plan plan' : Plan) (new : List Action) : Type 0 where
  pub well_formed : (i : ℕ) (x : Action) → slice_get new i ≡ Some x → IsWellFormed plan' t (length (actions plan t) + i) x
  pub makes : (i q : ℕ) → slice_get new i ≡ Some (Makes q) → (i ≡ 0) × (length plan.makers ≤ q)
  pub made : (p : ℕ) → length plan.makers ≤ p → p < length plan'.makers → (maker_of plan' p ≡ t) × (slice_get new 0 ≡ Some (Makes p))
  pub drawn : (c : ℕ) → length plan.parents ≤ c → c < length plan'.parents → parent_of plan' c ≡ t

-- a start is new exactly where a new action forks
pub record HasStarts (t : ℕ) (s s' : UnfoldingState) (new : List Action) : Type 0 where
  pub many : length s'.starts ≡ length s'.plan.parents
  pub stay : (c : ℕ) → is_begun s c ≡ true → is_begun s' c ≡ true
  pub begins : (c : ℕ) → is_begun s' c ≡ true → (is_begun s c ≡ true) ⊎ ((parent_of s'.plan c ≡ t) × (slice_get new 0 ≡ Some (Forks c)))
  pub forks : (i c : ℕ) → slice_get new i ≡ Some (Forks c) → is_begun s' c ≡ true
  pub near : (c : ℕ) → NearStart (slice_index_or s'.starts c None)

-- the new actions change the members as they change the phases
pub record HasMembers (t : ℕ) (s s' : UnfoldingState) (new : List Action) : Type 0 where
  pub own : (p : ℕ) → s'.members t p ≡ is_some (own_steps new (last_phases s.plan t) p)
  pub child :
      (u p : ℕ) → t < u → u < length s.plan.parents → parent_of s.plan u ≡ t →
      s'.members u p ≡ is_some (register_steps new u (last_phases s.plan t) (first_phases s.plan u) p)
  pub others : (u p : ℕ) → t < u → u < length s.plan.parents → parent_of s.plan u ≢ t → s'.members u p ≡ s.members u p
  pub outside : (u p : ℕ) → length s.plan.parents ≤ u → s'.members u p ≡ false
  pub drawn : (u p : ℕ) → length s.plan.parents ≤ u → u < length s'.plan.parents → first_phases s'.plan u p ≡ None

-- a task without actions has the phases with which it begins
pub idle_phases : (plan : Plan) (u : ℕ) → actions plan u ≡ [] → last_phases plan u ≡ first_phases plan u
unfolding phases_after
idle_phases plan u e = ap (λ xs. own_phases (action_at plan u) (first_phases plan u) (length xs)) e

not_begun : (s : UnfoldingState) (c : ℕ) → (is_begun s c ≡ true) ⊎ (is_begun s c ≡ false)
not_begun s c = by (is_begun s c) refl
  where
    by : (b : Bool) → is_begun s c ≡ b → (is_begun s c ≡ true) ⊎ (is_begun s c ≡ false)
    by true e = inl e
    by false e = inr e

module _ (t : ℕ) (s s' : UnfoldingState) (a : IsActing t s) (grows : Grows s.plan s'.plan t) (tables : HasTables s'.plan) where
  -- a new action is one of the list of them
  new_action :
      (k : ℕ) (x : Action) → length (actions s.plan t) ≤ k → action_at s'.plan t k ≡ Some x →
      (i : ℕ) × (k ≡ length (actions s.plan t) + i) × (slice_get grows.own.0 i ≡ Some x)
  new_action k x l e =
      let same : k ≡ length (actions s.plan t) + (k - length (actions s.plan t)) = omega arith in (
        k - length (actions s.plan t),
        same,
        sym (new_at s.plan s'.plan t a.sound.checked grows tables (k - length (actions s.plan t))) ∙ ap (action_at s'.plan t) (sym same) ∙ e,
      )

  stays_action : (u k : ℕ) (x : Action) → action_at s.plan u k ≡ Some x → action_at s'.plan u k ≡ Some x
  stays_action u k x e =
      elim (cases_eq u t) [
        | inl own ↦
            subst (λ v. action_at s'.plan v k ≡ Some x) (sym own)
            (let e' : action_at s.plan t k ≡ Some x = subst (λ v. action_at s.plan v k ≡ Some x) own e in
            own_at s.plan s'.plan t a.sound.checked grows tables k (action_within s.plan a.sound.checked t k x e') ∙ e')
        | inr other ↦ ap (λ f. f k) (other_at s.plan s'.plan t a.sound.checked grows tables u other) ∙ e
      ]

  stays_forked : (c : ℕ) → HasFork s.plan c → HasFork s'.plan c
  stays_forked c fork =
      let w = child_within s.plan (parent_of s.plan c) c (a.sound.checked.codes.well_formed (parent_of s.plan c) fork.0 (Forks c) fork.1).0 in (
        fork.0,
        subst (λ v. action_at s'.plan v fork.0 ≡ Some (Forks c)) (sym (parents_same s.plan s'.plan t a.sound.checked grows tables c w))
            (stays_action (parent_of s.plan c) fork.0 (Forks c) fork.1),
      )

  module _ (new : IsNew t s.plan s'.plan grows.own.0) where
    grown_well_formed : (k : ℕ) (x : Action) → length (actions s.plan t) ≤ k → action_at s'.plan t k ≡ Some x → IsWellFormed s'.plan t k x
    grown_well_formed k x l e =
        let n = new_action k x l e in subst (λ v. IsWellFormed s'.plan t v x) (sym n.1) (new.well_formed n.0 x n.2)

    grown_made : (p : ℕ) → length s.plan.makers ≤ p → p < length s'.plan.makers → (k : ℕ) × (action_at s'.plan (maker_of s'.plan p) k ≡ Some (Makes p))
    grown_made p l within =
        let m = new.made p l within in (
          length (actions s.plan t) + 0,
          subst (λ v. action_at s'.plan v (length (actions s.plan t) + 0) ≡ Some (Makes p)) (sym m.0) (new_at s.plan s'.plan t a.sound.checked grows tables 0 ∙ m.1),
        )

    grown_makes_rise :
        (j k p q : ℕ) → j < k → length (actions s.plan t) ≤ k → action_at s'.plan t j ≡ Some (Makes p) → action_at s'.plan t k ≡ Some (Makes q) → p < q
    grown_makes_rise j k p q l later e f =
        let n = new_action k (Makes q) later f in
        let m = new.makes n.0 q n.2 in
        let before : j < length (actions s.plan t) = omega (arith, n.1, m.0) in
        let was : action_at s.plan t j ≡ Some (Makes p) = sym (own_at s.plan s'.plan t a.sound.checked grows tables j before) ∙ e in
        omega (arith, m.1, phaser_within s.plan t p (a.sound.checked.codes.well_formed t j (Makes p) was).0)

    sound_growth : IsSoundGrowth s.plan s'.plan t
    sound_growth =
        record {
          well_formed = grown_well_formed;
          made = grown_made;
          makes_rise = grown_makes_rise;
          works = λ pos. a.sound.forked t pos a.begun;
          draws =
              λ c l within pos. let e = new.drawn c l within in
              subst (λ v. HasFork s'.plan v) (sym e) (stays_forked t (a.sound.forked t (subst (λ v. 0 < v) e pos) a.begun));
        }

    module _ (limits : IsWithinLimits s'.plan) (at : IsAt t s'.plan) (starts : HasStarts t s s' grows.own.0) (members : HasMembers t s s' grows.own.0) where
      checked_now : IsCheckedPlan s'.plan
      checked_now = plan_grows s.plan s'.plan t a.sound.checked grows tables limits sound_growth

      forked_now : (c : ℕ) → 0 < c → is_begun s' c ≡ true → HasFork s'.plan c
      forked_now c pos e =
          elim (starts.begins c e) [
            | inl was ↦ stays_forked c (a.sound.forked c pos was)
            | inr now ↦ (
              length (actions s.plan t) + 0,
              subst (λ v. action_at s'.plan v (length (actions s.plan t) + 0) ≡ Some (Forks c)) (sym now.0)
                  (new_at s.plan s'.plan t a.sound.checked grows tables 0 ∙ now.1),
            )
          ]

      unforked_now : (c j : ℕ) → is_begun s' c ≡ false → action_at s'.plan (parent_of s'.plan c) j ≢ Some (Forks c)
      unforked_now c j idle e =
          let within = child_within s'.plan (parent_of s'.plan c) c (checked_now.codes.well_formed (parent_of s'.plan c) j (Forks c) e).0 in
          elim (not_begun s c) [
            | inl was ↦ false≢true (sym idle ∙ starts.stay c was)
            | inr unforked ↦
                elim (cases_lt c (length s.plan.parents)) [
                  | inl old ↦
                      let same = parents_same s.plan s'.plan t a.sound.checked grows tables c old in
                      let e' : action_at s'.plan (parent_of s.plan c) j ≡ Some (Forks c) = subst (λ v. action_at s'.plan v j ≡ Some (Forks c)) same e in
                      elim (cases_eq (parent_of s.plan c) t) [
                        | inl own ↦
                            by_now c j idle (subst (λ v. action_at s'.plan v j ≡ Some (Forks c)) own e')
                            (λ l was. a.sound.unforked c j unforked (subst (λ v. action_at s.plan v j ≡ Some (Forks c)) (sym own) was))
                        | inr other ↦ a.sound.unforked c j unforked (sym (ap (λ f. f j) (other_at s.plan s'.plan t a.sound.checked grows tables (parent_of s.plan c) other)) ∙ e')
                      ]
                  | inr later ↦
                      by_now c j idle (subst (λ v. action_at s'.plan v j ≡ Some (Forks c)) (new.drawn c later within) e)
                      (λ l was. absurd (let w = child_within s.plan t c (a.sound.checked.codes.well_formed t j (Forks c) was).0 in omega arith))
                ]
          ]
        where
          by_now :
              (c j : ℕ) → is_begun s' c ≡ false → action_at s'.plan t j ≡ Some (Forks c) →
              (j < length (actions s.plan t) → action_at s.plan t j ≡ Some (Forks c) → ⊥) → ⊥
          by_now c j idle e old =
              elim (cases_lt j (length (actions s.plan t))) [
                | inl l ↦ old l (sym (own_at s.plan s'.plan t a.sound.checked grows tables j l) ∙ e)
                | inr l ↦ (let n = new_action j (Forks c) l e in false≢true (sym idle ∙ starts.forks n.0 c n.2))
              ]

      members_now : (u p : ℕ) → t ≤ u → u < length s'.plan.parents → s'.members u p ≡ is_some (last_phases s'.plan u p)
      members_now u p le within =
          elim (cases_eq u t) [
            | inl own ↦
                subst (λ v. s'.members v p ≡ is_some (last_phases s'.plan v p)) (sym own)
                (members.own p ∙ sym (ap (λ m. is_some (m p)) (last_grown s.plan s'.plan t a.sound.checked grows tables)))
            | inr other ↦
                let above : t < u = omega arith in
                let begins : last_phases s'.plan u ≡ first_phases s'.plan u = idle_phases s'.plan u (at.later u above) in
                elim (cases_lt u (length s.plan.parents)) [
                  | inr new_one ↦ members.outside u p new_one ∙ sym (ap is_some (ap (λ m. m p) begins ∙ members.drawn u p new_one within))
                  | inl old ↦
                      elim (cases_eq (parent_of s.plan u) t) [
                        | inl child ↦
                            members.child u p above old child
                            ∙ sym (ap (λ m. is_some (m p)) (begins ∙ first_grown s.plan s'.plan t a.sound.checked grows tables u (omega arith) old child))
                        | inr stranger ↦
                            let before : parent_of s.plan u < t = omega (arith, a.sound.at.parents u) in
                            members.others u p above old stranger
                            ∙ a.sound.members u p le old
                            ∙ ap (λ m. is_some (m p)) (idle_phases s.plan u (a.sound.at.later u above))
                            ∙ sym (ap (λ m. is_some (m p)) (begins ∙ first_kept s.plan s'.plan t a.sound.checked grows tables u (omega arith) old before))
                      ]
                ]
          ]

      more_tasks : length s.plan.parents ≤ length s'.plan.parents
      more_tasks = omega (arith, ap length grows.parents.1 ∙ length-append s.plan.parents grows.parents.0)

      pub acts_on : IsActing t s'
      acts_on =
          record {
            sound =
                record {
                  checked = checked_now;
                  at = at;
                  starts = starts.many;
                  forked = forked_now;
                  unforked = unforked_now;
                  members = members_now;
                  outside = λ u p l. members.outside u p (omega (arith, more_tasks));
                  near = starts.near;
                };
            here = omega (arith, a.here, more_tasks);
            begun = starts.stay t a.begun;
          }
