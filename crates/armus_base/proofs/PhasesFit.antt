-- How large phases get.
use Rattle.std.proofs.Common.{◌≡◌, ℕ, zero, suc, ◌<◌, ◌≤◌, ◌+◌, ◌*◌, Option, Some, None, List, [], ◌∷◌, length, take, get_or, add-one, arith, sym, ◌∙◌, ap, subst, refl, inl, inr}
use Rattle.std.specs.Prelude.{slice_get, sum_by, ◌==◌, if◌then◌else◌}
use Rattle.std.proofs.lemmas.List.Sums.{sum_by_more, sum_by-take-le}
use Rattle.std.proofs.lemmas.List.{get_or_past}
use Rattle.std.proofs.lemmas.Option.{unwrap_or-slice_get}
use Rattle.std.proofs.lemmas.Bool.{cases_eq, cases_lt, cases_Bool}
use Rattle.armus_base.specs.declared.op.Op.{Op}
use Rattle.armus_base.specs.declared.op.Op.TheVariants.{Adv, Await, Drop, Fork, Make, Reg}
use Rattle.armus_base.specs.declared.offset.Offset.{Offset}
use Rattle.armus_base.specs.declared.offset.Offset.TheVariants.{Ahead, Back, Here}
use Rattle.armus_base.specs.Limits.{max_offset}
use Rattle.armus_base.specs.Offsets.{IsNear, target}
use Rattle.armus_base.specs.Plans.{Action, Advances, Blocks, Drops, Forks, Makes, Passes, Plan, Refuses, Registers, action_at, actions, actions_of, code_of, parent_of, Aim}
use Rattle.armus_base.specs.States.{Phases, awaited, next_phase, updated}
use Rattle.armus_base.specs.Places.{first_phases, own_step, phases_after, published_after, register_step, registered_by}
use Rattle.armus_base.specs.CheckedPlans.{IsCheckedPlan}
use Rattle.armus_base.specs.calls.PlanLaws.{AwaitedPhasesFit, PhasesFit}
use Rattle.armus_base.proofs.Codes.{awaited_is}
use Rattle.armus_base.proofs.Steps.{updated_is, next_phase_is}
use Rattle.armus_base.proofs.Published.{published_after_is}
use Rattle.armus_base.proofs.Fixed.{first_phases_is, registered_by-suc}

-- the phase, if there is one, is at most b
abbrev AtMost : ℕ → Option ℕ → Type 0
AtMost b o = (n : ℕ) → o ≡ Some n → n ≤ b

-- an action raises a phase by this much
raises : Option Action → ℕ
raises (Some (Advances p)) = 1
raises o = 0

-- and the first k actions
raised : (ℕ → Option Action) → ℕ → ℕ
raised act zero = 0
raised act (suc k) = raised act k + raises (act k)

raised_first : (act : ℕ → Option Action) (k : ℕ) → raised act (suc k) ≡ raises (act 0) + raised (λ j. act (suc j)) k
unfolding raised
raised_first act zero = omega arith
raised_first act (suc k) = (let r = raised_first act k in omega arith)

raises_one : (o : Option Action) → raises o ≤ 1
unfolding raises
raises_one None = omega arith
raises_one (Some (Makes q)) = omega arith
raises_one (Some (Registers c q)) = omega arith
raises_one (Some (Forks c)) = omega arith
raises_one (Some (Advances q)) = omega arith
raises_one (Some (Drops q)) = omega arith
raises_one (Some (Blocks q)) = omega arith
raises_one (Some (Passes q)) = omega arith
raises_one (Some (Refuses q)) = omega arith

raised_zero : (act : ℕ → Option Action) → raised act 0 ≡ 0
unfolding raised
raised_zero act = refl

blocks_raise : (aim : Aim) → raises (Some (Blocks aim)) ≡ 0
unfolding raises
blocks_raise p = refl

raised_none : (k : ℕ) → raised (slice_get (actions_of [])) k ≡ 0
unfolding raised raises
raised_none zero = refl
raised_none (suc k) = (let r = raised_none k in omega arith)

-- a code raises a phase by no more than its length
raised_ops : (ops : List Op) (k : ℕ) → raised (slice_get (actions_of ops)) k ≤ length ops
raised_ops [] k = (let r = raised_none k in omega arith)
raised_ops (op ∷ ops) zero = (let z = raised_zero (slice_get (actions_of (op ∷ ops))) in omega arith)
raised_ops (Make q ∷ ops) (suc k) = (let r = raised_ops ops k in let s = raised_first (slice_get (actions_of (Make q ∷ ops))) k in
    let o = raises_one (Some (Makes q.0)) in omega arith)
raised_ops (Reg c q ∷ ops) (suc k) = (let r = raised_ops ops k in let s = raised_first (slice_get (actions_of (Reg c q ∷ ops))) k in
    let o = raises_one (Some (Registers c.0 q.0)) in omega arith)
raised_ops (Fork c ∷ ops) (suc k) = (let r = raised_ops ops k in let s = raised_first (slice_get (actions_of (Fork c ∷ ops))) k in
    let o = raises_one (Some (Forks c.0)) in omega arith)
raised_ops (Adv q ∷ ops) (suc k) = (let r = raised_ops ops k in let s = raised_first (slice_get (actions_of (Adv q ∷ ops))) k in
    let o = raises_one (Some (Advances q.0)) in omega arith)
raised_ops (Drop q ∷ ops) (suc k) = (let r = raised_ops ops k in let s = raised_first (slice_get (actions_of (Drop q ∷ ops))) k in
    let o = raises_one (Some (Drops q.0)) in omega arith)
raised_ops (Await q off ∷ ops) (suc zero) = (let s = raised_first (slice_get (actions_of (Await q off ∷ ops))) 0 in
    let o = raises_one (Some (Blocks (record { phaser = q.0; off = off }))) in let z = raised_none 0 in
    let w = raised_zero (λ j. slice_get (actions_of (Await q off ∷ ops)) (suc j)) in omega arith)
raised_ops (Await q off ∷ ops) (suc (suc k)) =
    (let r = raised_ops ops k in
    let s = raised_first (slice_get (actions_of (Await q off ∷ ops))) (suc k) in
    let s' = raised_first (λ j. slice_get (actions_of (Await q off ∷ ops)) (suc j)) k in
    let o : raises (Some (Blocks (record { phaser = q.0; off = off }))) ≡ 0 = blocks_raise (record { phaser = q.0; off = off }) in
    let o' = raises_one (Some (Passes q.0)) in
    omega arith)

own_step_at_most : (p b : ℕ) (o : Option Action) (m : Phases) → AtMost b (m p) → AtMost (b + raises o) (own_step o m p)
unfolding raises
own_step_at_most p b (Some (Makes q)) m h n e =
    elim (updated_is m q p (Some 0) (Some n) e) [
      | inl w ↦ (let z : 0 ≡ n = (let x = w.1 in cc) in omega arith)
      | inr w ↦ (let l = h n w.1 in omega arith)
    ]
own_step_at_most p b (Some (Advances q)) m h n e =
    elim (updated_is m q p (next_phase (m q)) (Some n) e) [
      | inl w ↦
          let j = next_phase_is (m q) n w.1 in
          let before = h j.0 (subst (λ x. m x ≡ Some j.0) (sym w.0) j.1) in
          let is = j.2 in
          omega arith
      | inr w ↦ (let l = h n w.1 in omega arith)
    ]
own_step_at_most p b (Some (Drops q)) m h n e =
    elim (updated_is m q p None (Some n) e) [ inl w ↦ absurd (cc) | inr w ↦ (let l = h n w.1 in omega arith) ]
own_step_at_most p b o m h n e = (let l = h n e in omega arith)

register_step_at_most : (p b c : ℕ) (o : Option Action) (m r : Phases) → AtMost b (m p) → AtMost b (r p) → AtMost b (register_step o c m r p)
register_step_at_most p b c (Some (Registers d q)) m r own h n e =
    elim (cases_Bool (d == c)) [
      | inl same ↦
          elim (updated_is r q p (m q) (Some n) (subst (λ x. (if x then updated r q (m q) else r) p ≡ Some n) same e)) [
            | inl w ↦ own n (subst (λ x. m x ≡ Some n) (sym w.0) w.1)
            | inr w ↦ h n w.1
          ]
      | inr other ↦ h n (subst (λ x. (if x then updated r q (m q) else r) p ≡ Some n) other e)
    ]
register_step_at_most p b c o m r own h n e = h n e

-- how many ops the tasks below t have
work_before : Plan → ℕ → ℕ
work_before plan zero = 0
work_before plan (suc t) = work_before plan t + length (code_of plan t)

work_more : (plan : Plan) (t u : ℕ) → t < u → work_before plan t + length (code_of plan t) ≤ work_before plan u
unfolding work_before
work_more plan t zero l = absurd (omega arith)
work_more plan t (suc u) l =
    elim (cases_eq t u) [
      | inl e ↦ subst (λ v. work_before plan v + length (code_of plan v) ≤ work_before plan u + length (code_of plan u)) (sym e) (omega arith)
      | inr n ↦ (let before = work_more plan t u (omega arith) in omega arith)
    ]

registered_zero : (plan : Plan) (u t : ℕ) → registered_by plan u t 0 ≡ (λ _. None)
unfolding registered_by
registered_zero plan u t = refl

first_phases_root : (plan : Plan) → first_phases plan 0 ≡ (λ _. None)
unfolding first_phases
first_phases_root plan = refl

module _ (plan : Plan) (checked : IsCheckedPlan plan) (p : ℕ) where
  own_at_most : (t : ℕ) → AtMost (work_before plan t) (first_phases plan t p) → (k : ℕ) → AtMost (work_before plan t + raised (action_at plan t) k) (phases_after plan t k p)
  unfolding phases_after raised
  own_at_most t base zero n e = (let l = base n e in omega arith)
  own_at_most t base (suc k) n e =
      (let l = own_step_at_most p (work_before plan t + raised (action_at plan t) k) (action_at plan t k) (phases_after plan t k) (own_at_most t base k) n e in omega arith)

  raised_at_most : (t k : ℕ) → raised (action_at plan t) k ≤ length (code_of plan t)
  unfolding action_at actions
  raised_at_most t k = raised_ops (code_of plan t) k

  registered_at_most :
      (u t b : ℕ) → ((j : ℕ) → AtMost b (phases_after plan u j p)) → (k : ℕ) → AtMost b (registered_by plan u t k p)
  registered_at_most u t b own zero n e = absurd (let none = ap (λ m. m p) (registered_zero plan u t) in cc)
  registered_at_most u t b own (suc k) n e =
      register_step_at_most p b t (action_at plan u k) (phases_after plan u k) (registered_by plan u t k)
      (own k) (registered_at_most u t b own k)
      n (ap (λ m. m p) (sym (registered_by-suc plan checked u t k)) ∙ e)

  first_phases_at_most : (d t : ℕ) → t ≤ d → AtMost (work_before plan t) (first_phases plan t p)
  first_phases_at_most d zero h n e = absurd (let none = ap (λ m. m p) (first_phases_root plan) in cc)
  first_phases_at_most zero (suc t) h n e = absurd (omega arith)
  first_phases_at_most (suc d) (suc t) h n e =
      let u = parent_of plan (suc t) in
      let first : u < suc t = checked.tables.parents_first (suc t) (omega arith) in
      let from : registered_by plan u (suc t) (length (actions plan u)) p ≡ Some n = ap (λ m. m p) (sym (first_phases_is plan checked (suc t) (omega arith))) ∙ e in
      let own : (j : ℕ) → AtMost (work_before plan u + length (code_of plan u)) (phases_after plan u j p) =
      λ j i f. (let x = own_at_most u (first_phases_at_most d u (omega arith)) j i f in let y = raised_at_most u j in omega arith) in
      let l = registered_at_most u (suc t) (work_before plan u + length (code_of plan u)) own (length (actions plan u)) n from in
      let more = work_more plan u (suc t) first in
      omega arith

  phases_at_most : (t k : ℕ) → AtMost (work_before plan t + length (code_of plan t)) (phases_after plan t k p)
  phases_at_most t k n e =
      (let x = own_at_most t (first_phases_at_most t t (omega arith)) k n e in let y = raised_at_most t k in omega arith)

-- an op is at most two actions
two_each : (ops : List Op) → length (actions_of ops) ≤ 2 * length ops
two_each [] = omega arith
two_each (Await q off ∷ ops) = (let l = two_each ops in omega arith)
two_each (Make q ∷ ops) = (let l = two_each ops in omega arith)
two_each (Reg c q ∷ ops) = (let l = two_each ops in omega arith)
two_each (Fork c ∷ ops) = (let l = two_each ops in omega arith)
two_each (Adv q ∷ ops) = (let l = two_each ops in omega arith)
two_each (Drop q ∷ ops) = (let l = two_each ops in omega arith)

-- all tasks together have all the ops
work_at_most : (plan : Plan) (t : ℕ) → t ≤ length plan.codes → work_before plan t ≤ sum_by length (take t plan.codes)
unfolding work_before
work_at_most plan zero l = omega arith
work_at_most plan (suc t) l =
    let before = work_at_most plan t (omega arith) in
    let code : code_of plan t ≡ get_or plan.codes t [] = unwrap_or-slice_get plan.codes t [] in
    let same = ap length code in
    let more : sum_by length (take (suc t) plan.codes) ≡ sum_by length (take t plan.codes) + length (get_or plan.codes t []) =
    subst (λ k. sum_by length (take k plan.codes) ≡ sum_by length (take t plan.codes) + length (get_or plan.codes t [])) (add-one t) (sum_by_more length plan.codes t [] l) in
    omega arith

length-nil : length {A = Op} [] ≡ 0
length-nil = refl

all_work : (plan : Plan) (t : ℕ) → work_before plan t ≤ sum_by length plan.codes
unfolding work_before
all_work plan zero = omega arith
all_work plan (suc t) =
    elim (cases_lt t (length plan.codes)) [
      | inl l ↦ (let a = work_at_most plan (suc t) l in let part = sum_by-take-le length plan.codes (suc t) in omega arith)
      | inr l ↦
          (let before = all_work plan t in
          let code : code_of plan t ≡ get_or plan.codes t [] = unwrap_or-slice_get plan.codes t [] in
          let same = ap length code in
          let none = ap length (get_or_past plan.codes t [] l) in
          let zero_long = length-nil in
          omega arith)
    ]

pub phases_fit : PhasesFit
unfolding work_before
phases_fit plan t k p n checked e =
    (let l = phases_at_most plan checked p t k n e in let a = all_work plan (suc t) in omega arith)

-- a near target is at most the greatest offset above the phase
pub target_fits : (off : Offset) (m : ℕ) → IsNear off → target off m ≤ m + max_offset
target_fits Here m near = omega arith
target_fits (Back k) m near = omega arith
target_fits (Ahead k) m near = (let few : k ≤ max_offset = near in omega arith)

pub awaited_phases_fit : AwaitedPhasesFit
awaited_phases_fit plan t k e checked published =
    let is = published_after_is plan t k e published in
    let now : published_after plan t (suc is.0) ≡ Some e = ap (published_after plan t) (sym is.1) ∙ published in
    let event : awaited (Some (Blocks is.2)) (phases_after plan t is.0) ≡ Some e =
    ap (λ o. awaited o (phases_after plan t is.0)) (sym is.4) ∙ now in
    let by = awaited_is is.2 (phases_after plan t is.0) e event in
    let own = phases_fit plan t is.0 is.2.phaser by.1.0 checked by.1.1 in
    let near = target_fits is.2.off by.1.0 (checked.codes.well_formed t is.0 (Blocks is.2) is.4).1 in
    let same = by.1.2 in
    omega arith

-- no code has more actions than twice the ops of the plan
pub actions_fit : (plan : Plan) (t : ℕ) → length (actions plan t) ≤ 2 * sum_by length plan.codes
unfolding actions
actions_fit plan t =
    let here = two_each (code_of plan t) in
    let more = work_more plan t (suc t) (omega arith) in
    let all = all_work plan (suc t) in
    omega arith
