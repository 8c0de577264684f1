-- Whatever acts or is a member is a task of the plan, so that what is said of all tasks can be tested.
use Rattle.std.proofs.Common.{◌≡◌, ℕ, zero, suc, ◌<◌, ◌≤◌, Option, Some, None, List, [], ◌∷◌, length, arith, sym, ◌∙◌, ap, subst, refl, ◌⊎◌, inl, inr}
use Rattle.std.specs.Prelude.{slice_get, unwrap_or}
use Rattle.std.proofs.lemmas.Bool.{cases_eq, cases_lt}
use Rattle.std.proofs.lemmas.Option.{slice_get_within}
use Rattle.armus_base.specs.declared.op.Op.{Op}
use Rattle.armus_base.specs.Plans.{Action, Advances, Blocks, Drops, Forks, Makes, Passes, Plan, Refuses, Registers, action_at, actions, actions_of, in_code}
use Rattle.armus_base.specs.States.{IsLegal, IsReached, State, Step, after, event_at, next_phase}
use Rattle.armus_base.specs.Runs.{IsByCode, IsLegalRun, IsPlainRun, places, state_after}
use Rattle.armus_base.specs.Places.{done_by}
use Rattle.armus_base.specs.CheckedPlans.{IsCheckedPlan}
use Rattle.armus_base.proofs.Steps.{with_phase_is}
use Rattle.armus_base.proofs.Codes.{child_within}
use Rattle.armus_base.proofs.Fixed.{action_within}
use Rattle.armus_base.proofs.Members.{plain_undropped, plain_step, other_step, by_code_next}

-- of the numbers below k all are of one kind, or one is of the other
pub all_or_one :
    (P Q : ℕ → Type 0) → ((u : ℕ) → P u ⊎ Q u) → (k : ℕ) → ((u : ℕ) → u < k → P u) ⊎ ((u : ℕ) × (u < k) × Q u)
all_or_one P Q test zero = inl (λ u l. absurd (omega arith))
all_or_one P Q test (suc k) =
    elim (all_or_one P Q test k) [
      | inr one ↦ inr (one.0, omega arith, one.2)
      | inl all ↦ elim (test k) [
        | inr here ↦ inr (k, omega arith, here)
        | inl here ↦ inl (λ u l. elim (cases_eq u k) [ inl e ↦ subst P (sym e) here | inr n ↦ all u (omega arith) ])
      ]
    ]

module _ (plan : Plan) (checked : IsCheckedPlan plan) where
  -- only tasks of the plan have code
  pub action_of_task : (t k : ℕ) (x : Action) → action_at plan t k ≡ Some x → t < length plan.parents
  unfolding action_at actions
  action_of_task t k x e = go (slice_get plan.codes t) refl
    where
      go : (o : Option (List Op)) → slice_get plan.codes t ≡ o → t < length plan.parents
      go None is =
          absurd (let n : slice_get (actions_of (unwrap_or None [])) k ≡ Some x = subst (λ o. slice_get (actions_of (unwrap_or o [])) k ≡ Some x) is e in cc)
      go (Some code) is = (let l = slice_get_within plan.codes t code is in let c = checked.tables.one_code_each in omega arith)

  pub no_action : (t k : ℕ) → length plan.parents ≤ t → action_at plan t k ≡ None
  no_action t k l = go (action_at plan t k) refl
    where
      go : (o : Option Action) → action_at plan t k ≡ o → o ≡ None
      go None is = refl
      go (Some x) is = absurd (let w = action_of_task t k x is in omega arith)

  -- a task has done no more than its code
  pub done_within_code : (h : List Step) → IsPlainRun plan h → (t : ℕ) → done_by (places h) t ≤ length (actions plan t)
  done_within_code [] run t = omega arith
  done_within_code (e ∷ h) run t =
      let before : IsPlainRun plan h = (run.0.0, run.1.0) in
      elim (cases_eq t e.task) [
        | inl same ↦
            subst (λ v. done_by (places (e ∷ h)) v ≤ length (actions plan v)) (sym same)
            (let next = by_code_next plan e.task (places h e.task).done (places h e.task).dropped e.action (plain_undropped plan h before e.task) run.0.1.by_code in
            let l = action_within plan checked e.task (places h e.task).done (in_code e.action) next in
            let grown : done_by (places (e ∷ h)) e.task ≡ suc (places h e.task).done = ap (λ v. v.done) (plain_step plan e h run) in
            omega arith)
        | inr other ↦
            (let l = done_within_code h before t in
            let s : done_by (places (e ∷ h)) t ≡ done_by (places h) t = ap (λ v. v.done) (other_step e h t other) in
            omega arith)
      ]

  -- who has done something is a task of the plan
  pub begun_within : (h : List Step) → IsPlainRun plan h → (t : ℕ) → 0 < done_by (places h) t → t < length plan.parents
  begun_within [] run t l = absurd (omega arith)
  begun_within (e ∷ h) run t l =
      let before : IsPlainRun plan h = (run.0.0, run.1.0) in
      elim (cases_eq t e.task) [
        | inl same ↦
            subst (λ v. v < length plan.parents) (sym same)
            (action_of_task e.task (places h e.task).done (in_code e.action)
            (by_code_next plan e.task (places h e.task).done (places h e.task).dropped e.action (plain_undropped plan h before e.task) run.0.1.by_code))
        | inr other ↦
            begun_within h before t
            (let s : done_by (places (e ∷ h)) t ≡ done_by (places h) t = ap (λ v. v.done) (other_step e h t other) in omega arith)
      ]

  within_after :
      (s : State) (u k : ℕ) (o : Option ℕ) (x : Action) → IsByCode plan u k o x → IsLegal plan s u x →
      ((t p n : ℕ) → s.phases t p ≡ Some n → t < length plan.parents) → (t p n : ℕ) → (after s u x).phases t p ≡ Some n →
      t < length plan.parents
  within_after s u k None (Makes q) code legal before t p n m =
      elim (with_phase_is s.phases u q (Some 0) t p (Some n) m) [
        | inl w ↦ subst (λ v. v < length plan.parents) (sym w.0) (action_of_task u k (Makes q) code)
        | inr w ↦ before t p n w.1
      ]
  within_after s u k (Some r) (Makes q) code legal before t p n m = absurd code
  within_after s u k None (Registers c q) code legal before t p n m =
      elim (with_phase_is s.phases c q (s.phases u q) t p (Some n) m) [
        | inl w ↦ subst (λ v. v < length plan.parents) (sym w.0) (child_within plan u c (checked.codes.well_formed u k (Registers c q) code).0)
        | inr w ↦ before t p n w.1
      ]
  within_after s u k (Some r) (Registers c q) code legal before t p n m = absurd code
  within_after s u k o (Forks c) code legal before t p n m = before t p n m
  within_after s u k o (Advances q) code legal before t p n m =
      elim (with_phase_is s.phases u q (next_phase (s.phases u q)) t p (Some n) m) [
        | inl w ↦ subst (λ v. v < length plan.parents) (sym w.0) (before u q legal.1.0 legal.1.1)
        | inr w ↦ before t p n w.1
      ]
  within_after s u k o (Drops q) code legal before t p n m =
      elim (with_phase_is s.phases u q None t p (Some n) m) [ inl w ↦ absurd (cc) | inr w ↦ before t p n w.1 ]
  within_after s u k o (Blocks q) code legal before t p n m = before t p n m
  within_after s u k o (Passes q) code legal before t p n m = before t p n m
  within_after s u k o (Refuses q) code legal before t p n m = before t p n m

  -- who is a member is a task of the plan
  pub member_within :
      (h : List Step) → IsLegalRun plan h → (t p n : ℕ) → (state_after h).phases t p ≡ Some n → t < length plan.parents
  member_within [] run t p n m = absurd (cc)
  member_within (e ∷ h) run t p n m =
      within_after (state_after h) e.task (places h e.task).done (places h e.task).dropped e.action run.1.by_code run.1.legal
      (member_within h run.0) t p n m

  -- whether an event is reached
  pub reached_or_not :
      (h : List Step) → IsLegalRun plan h → (p n : ℕ) → IsReached (state_after h) (event_at p n) ⊎ (IsReached (state_after h) (event_at p n) → ⊥)
  reached_or_not h run p n =
      elim (all_or_one
      (λ u. (m : ℕ) → (state_after h).phases u p ≡ Some m → n ≤ m)
      (λ u. (m : ℕ) × ((state_after h).phases u p ≡ Some m) × (m < n))
      (λ u. test u ((state_after h).phases u p) refl)
      (length plan.parents)) [
        | inl all ↦ inl (λ u m e. all u (member_within h run u p m e) m e)
        | inr one ↦ inr (λ r. let behind = one.2 in let ahead = r one.0 behind.0 behind.1 in omega arith)
      ]
    where
      test :
          (u : ℕ) (o : Option ℕ) → (state_after h).phases u p ≡ o →
          ((m : ℕ) → (state_after h).phases u p ≡ Some m → n ≤ m) ⊎ ((m : ℕ) × ((state_after h).phases u p ≡ Some m) × (m < n))
      test u None is = inl (λ m e. absurd (cc))
      test u (Some k) is =
          elim (cases_lt k n) [
            | inl l ↦ inr (k, is, l)
            | inr l ↦ inl (λ m e. let same : k ≡ m = (let both : Some k ≡ Some m = sym is ∙ e in cc) in omega arith)
          ]
