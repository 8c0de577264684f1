-- What stays of the phases that a plan fixes while it grows, and what becomes of them.
use Rattle.std.proofs.Common.{◌≡◌, ◌≢◌, ℕ, zero, suc, ◌+◌, ◌<◌, ◌≤◌, Some, None, Option, List, [], ◌∷◌, length, arith, sym, ◌∙◌, ap, subst, refl, inl, inr}
use Rattle.std.specs.Prelude.{slice_get}
use Rattle.std.proofs.lemmas.Bool.{cases_eq}
use Rattle.std.proofs.lemmas.List.{length-append}
use Rattle.std.proofs.lemmas.Bool.Decides.{nat_tests}
use Rattle.armus_base.specs.Plans.{Action, Makes, Registers, Forks, Advances, Drops, Blocks, Passes, Refuses, Plan, action_at, actions, parent_of}
use Rattle.armus_base.specs.States.{Phases}
use Rattle.armus_base.specs.Places.{first_phases, own_phases, own_step, phases_after, register_step, registered, registered_by}
use Rattle.armus_base.specs.calls.CheckedPlans.{Grows}
use Rattle.armus_base.specs.CheckedPlans.{HasTables, IsCheckedPlan, IsMemberAfter}
use Rattle.armus_base.proofs.Codes.{child_within}
use Rattle.armus_base.proofs.Fixed.{first_phases_is, first_phases_unfolds, register_step_keeps}
use Rattle.armus_base.proofs.Lists.{slice_get-behind}
use Rattle.armus_base.proofs.PlanGrows.{own_at, fixed_own, parents_same, registered_same, first_phases_same}

-- the phases of a task with those of m after these further actions of its own
abbrev pub own_steps : List Action → Phases → Phases
own_steps [] m = m
own_steps (x ∷ xs) m = own_steps xs (own_step (Some x) m)

-- the phases of child c with those of r after these further actions of its parent, which has those of m
abbrev pub register_steps : List Action → ℕ → Phases → Phases → Phases
register_steps [] c m r = r
register_steps (x ∷ xs) c m r = register_steps xs c (own_step (Some x) m) (register_step (Some x) c m r)

-- the phases of task t after all its actions
abbrev pub last_phases : Plan → ℕ → Phases
last_phases plan t = phases_after plan t (length (actions plan t))

own_more :
    (act : ℕ → Option Action) (m : Phases) (k : ℕ) (new : List Action) → ((i : ℕ) → act (k + i) ≡ slice_get new i) →
    own_phases act m (k + length new) ≡ own_steps new (own_phases act m k)
own_more act m k [] h = ap (own_phases act m) (let e : k + 0 ≡ k = omega arith in e)
own_more act m k (x ∷ xs) h =
    let now : act k ≡ Some x = ap act (let e : k ≡ k + 0 = omega arith in e) ∙ h 0 in
    ap (own_phases act m) (let e : k + length (x ∷ xs) ≡ suc k + length xs = omega arith in e)
    ∙ own_more act m (suc k) xs (λ i. ap act (let e : suc k + i ≡ k + suc i = omega arith in e) ∙ h (suc i))
    ∙ ap (λ o. own_steps xs (own_step o (own_phases act m k))) now

registered_more :
    (act : ℕ → Option Action) (m : Phases) (c k : ℕ) (new : List Action) → ((i : ℕ) → act (k + i) ≡ slice_get new i) →
    registered act m c (k + length new) ≡ register_steps new c (own_phases act m k) (registered act m c k)
registered_more act m c k [] h = ap (registered act m c) (let e : k + 0 ≡ k = omega arith in e)
registered_more act m c k (x ∷ xs) h =
    let now : act k ≡ Some x = ap act (let e : k ≡ k + 0 = omega arith in e) ∙ h 0 in
    ap (registered act m c) (let e : k + length (x ∷ xs) ≡ suc k + length xs = omega arith in e)
    ∙ registered_more act m c (suc k) xs (λ i. ap act (let e : suc k + i ≡ k + suc i = omega arith in e) ∙ h (suc i))
    ∙ ap (λ o. register_steps xs c (own_step o (own_phases act m k)) (register_step o c (own_phases act m k) (registered act m c k))) now

module _ (plan plan' : Plan) (t : ℕ) (checked : IsCheckedPlan plan) (grows : Grows plan plan' t) (tables : HasTables plan') where
  pub new_at : (i : ℕ) → action_at plan' t (length (actions plan t) + i) ≡ slice_get grows.own.0 i
  unfolding action_at
  new_at i = ap (λ xs. slice_get xs (length (actions plan t) + i)) grows.own.1 ∙ slice_get-behind (actions plan t) grows.own.0 i

  -- what the task has registered stays
  registered_before : (c k : ℕ) → k ≤ length (actions plan t) → registered_by plan' t c k ≡ registered_by plan t c k
  unfolding registered_by phases_after
  registered_before c zero l = refl
  registered_before c (suc k) l =
      ap (λ o. register_step o c (own_phases (action_at plan' t) (first_phases plan' t) k) (registered (action_at plan' t) (first_phases plan' t) c k))
      (own_at plan plan' t checked grows tables k (omega arith))
      ∙ ap (λ m. register_step (action_at plan t k) c m (registered (action_at plan' t) (first_phases plan' t) c k))
      (fixed_own plan plan' t checked grows tables k (omega arith))
      ∙ ap (register_step (action_at plan t k) c (own_phases (action_at plan t) (first_phases plan t) k)) (registered_before c k (omega arith))

  -- the current task's phases go on from those that it had
  pub last_grown : last_phases plan' t ≡ own_steps grows.own.0 (last_phases plan t)
  unfolding phases_after
  last_grown =
      ap (phases_after plan' t) (ap length grows.own.1 ∙ length-append (actions plan t) grows.own.0)
      ∙ own_more (action_at plan' t) (first_phases plan' t) (length (actions plan t)) grows.own.0 new_at
      ∙ ap (own_steps grows.own.0) (fixed_own plan plan' t checked grows tables (length (actions plan t)) (omega arith))

  registered_grown :
      (c : ℕ) → registered_by plan' t c (length (actions plan' t))
      ≡ register_steps grows.own.0 c (last_phases plan t) (registered_by plan t c (length (actions plan t)))
  unfolding phases_after registered_by
  registered_grown c =
      ap (registered_by plan' t c) (ap length grows.own.1 ∙ length-append (actions plan t) grows.own.0)
      ∙ registered_more (action_at plan' t) (first_phases plan' t) c (length (actions plan t)) grows.own.0 new_at
      ∙ ap (λ m. register_steps grows.own.0 c m (registered_by plan' t c (length (actions plan t))))
      (fixed_own plan plan' t checked grows tables (length (actions plan t)) (omega arith))
      ∙ ap (register_steps grows.own.0 c (last_phases plan t)) (registered_before c (length (actions plan t)) (omega arith))

  -- a child of the current task begins with what it is registered with now
  pub first_grown :
      (u : ℕ) → 0 < u → u < length plan.parents → parent_of plan u ≡ t →
      first_phases plan' u ≡ register_steps grows.own.0 u (last_phases plan t) (first_phases plan u)
  first_grown u pos l e =
      first_phases_unfolds plan' tables.parents_first u pos
      ∙ ap (λ w. registered_by plan' w u (length (actions plan' w))) (parents_same plan plan' t checked grows tables u l ∙ e)
      ∙ registered_grown u
      ∙ ap (register_steps grows.own.0 u (last_phases plan t))
      (ap (λ w. registered_by plan w u (length (actions plan w))) (sym e) ∙ sym (first_phases_is plan checked u pos))

  -- a child of an earlier task begins as before
  pub first_kept : (u : ℕ) → 0 < u → u < length plan.parents → parent_of plan u < t → first_phases plan' u ≡ first_phases plan u
  first_kept u pos l before =
      let v = parent_of plan u in
      first_phases_unfolds plan' tables.parents_first u pos
      ∙ ap (λ w. registered_by plan' w u (length (actions plan' w))) (parents_same plan plan' t checked grows tables u l)
      ∙ registered_same plan plan' t checked grows tables u v (λ e. absurd (omega arith))
      (first_phases_same plan plan' t checked grows tables v v (omega arith) (omega arith))
      ∙ sym (first_phases_is plan checked u pos)

  -- a new task begins with nothing that there was
  pub first_new :
      (u : ℕ) → 0 < u → parent_of plan' u ≡ t →
      first_phases plan' u ≡ register_steps grows.own.0 u (last_phases plan t) (registered_by plan t u (length (actions plan t)))
  first_new u pos e =
      first_phases_unfolds plan' tables.parents_first u pos
      ∙ ap (λ w. registered_by plan' w u (length (actions plan' w))) e
      ∙ registered_grown u

-- nobody registers what is no task yet
pub nobody_registers :
    (plan : Plan) → IsCheckedPlan plan → (t c k : ℕ) → length plan.parents ≤ c → (p : ℕ) → registered_by plan t c k p ≡ None
unfolding registered_by
nobody_registers plan checked t c zero l p = refl
nobody_registers plan checked t c (suc k) l p =
    ap (λ m. m p)
    (register_step_keeps (action_at plan t k) c (own_phases (action_at plan t) (first_phases plan t) k)
    (registered (action_at plan t) (first_phases plan t) c k)
    (λ q e. absurd (let w = child_within plan t c (checked.codes.well_formed t k (Registers c q) e).0 in omega arith)))
    ∙ nobody_registers plan checked t c k l p

-- an action of the parent keeps or makes the child a member
step_registers :
    (o : Option Action) (c p : ℕ) (m r : Phases) → ((q : ℕ) → o ≡ Some (Registers c q) → (n : ℕ) × (m q ≡ Some n)) →
    (o ≢ Some (Registers c p) → (n : ℕ) × (r p ≡ Some n)) → (n : ℕ) × (register_step o c m r p ≡ Some n)
step_registers None c p m r now old = old (λ e. absurd cc)
step_registers (Some (Makes q)) c p m r now old = old (λ e. absurd cc)
step_registers (Some (Forks d)) c p m r now old = old (λ e. absurd cc)
step_registers (Some (Advances q)) c p m r now old = old (λ e. absurd cc)
step_registers (Some (Drops q)) c p m r now old = old (λ e. absurd cc)
step_registers (Some (Blocks q)) c p m r now old = old (λ e. absurd cc)
step_registers (Some (Passes q)) c p m r now old = old (λ e. absurd cc)
step_registers (Some (Refuses q)) c p m r now old = old (λ e. absurd cc)
step_registers (Some (Registers d q)) c p m r now old =
    elim (cases_eq d c) [
      | inl same ↦
          elim (cases_eq p q) [
            | inl here ↦
                let n = now q (ap (λ v. Some (Registers v q)) same) in
                (n.0, grind (arith, nat_tests, n.1))
            | inr other ↦
                let n = old (λ e. absurd (other (sym (registers_phaser e)))) in
                (n.0, grind (arith, nat_tests, n.1))
          ]
      | inr other ↦
          let n = old (λ e. absurd (other (registers_child e))) in
          (n.0, grind (arith, nat_tests, n.1))
    ]
  where
    registers_child : Some (Registers d q) ≡ Some (Registers c p) → d ≡ c
    registers_child e = cc

    registers_phaser : Some (Registers d q) ≡ Some (Registers c p) → q ≡ p
    registers_phaser e = cc

member_phase :
    (plan : Plan) (t k q : ℕ) → IsMemberAfter plan t k q → (n : ℕ) × (own_phases (action_at plan t) (first_phases plan t) k q ≡ Some n)
unfolding phases_after
member_phase plan t k q h = h

-- what was registered once stays registered
pub stays_registered :
    (plan : Plan) → IsCheckedPlan plan → (t c p j k : ℕ) → j < k → action_at plan t j ≡ Some (Registers c p) →
    (n : ℕ) × (registered_by plan t c k p ≡ Some n)
unfolding registered_by
stays_registered plan checked t c p j zero l e = absurd (omega arith)
stays_registered plan checked t c p j (suc k) l e =
    step_registers (action_at plan t k) c p (own_phases (action_at plan t) (first_phases plan t) k) (registered (action_at plan t) (first_phases plan t) c k)
    (λ q is. member_phase plan t k q (checked.codes.well_formed t k (Registers c q) is).3)
    (λ not_now. elim (cases_eq j k) [
      | inl same ↦ absurd (not_now (subst (λ v. action_at plan t v ≡ Some (Registers c p)) same e))
      | inr other ↦ stays_registered plan checked t c p j k (omega arith) e
    ])
