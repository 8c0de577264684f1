-- In PL 2 a task has left its phasers behind its last action.
use Rattle.std.proofs.Common.{◌≡◌, ℕ, zero, suc, ◌-◌, ◌+◌, ◌<◌, ◌≤◌, Bool, true, false, Option, Some, None, Ok, List, [], length, get_or, refl, sym, ap, subst, ◌∙◌, arith, inl, inr}
use Rattle.std.specs.Prelude.{if◌then◌else◌, is_some, nat_lt, slice_get, sum_by}
use Rattle.std.proofs.lemmas.Bool.{cases_eq, cases_lt, false≢true}
use Rattle.std.proofs.lemmas.Option.{unwrap_or-slice_get}
use Rattle.armus_base.specs.declared.op.Op.{Op}
use Rattle.armus_base.specs.declared.op.Op.TheVariants as op
use Rattle.armus_base.specs.Limits.{max_ops, max_phasers, max_tasks}
use Rattle.armus_base.specs.Places.{first_phases, first_phases_by, own_phases, phases_after, registered}
use Rattle.armus_base.specs.Numbers.{phaser}
use Rattle.armus_base.specs.Plans.{Plan, action_at, actions, actions_of, code_of, number_or_zero, parent_of}
use Rattle.armus_base.proofs.Lists.{slice_get-append}
use Rattle.pl_syntax.specs.declared.tree.Program.{Program}
use Rattle.pl_syntax.specs.calls.Tree.{AreNear}
use Rattle.pl_syntax.specs.Tree.{Tree}
use Rattle.pl_plan.specs.Unfolding.{Start, UnfoldingState, Visit, add_op, fault_unless, leave, leave_below, make_visits, opening_state, plan_of, too_many_ops}
use Rattle.pl_plan.specs.Unfolding.{unfold_task, unfold_tasks, visits_of, with_member, with_members, with_names, with_op, with_pieces}
use Rattle.pl_plan.proofs.Growth.{last_phases}
use Rattle.pl_plan.proofs.Sound.{IsActing, IsSound, NearStart, is_begun}
use Rattle.pl_plan.proofs.SoundSteps.{OnState, comes_keep, end_keeps, member_elsewhere, member_here, same_acts, visits_near}
use Rattle.pl_plan.proofs.TasksLeave.{IsOfParts, Kept, Steps, inside, leaves_below, of_body, opening_kept, start_at, steps_more, steps_same, visits_steps, tasks_until}
use Rattle.pl_plan.proofs.UnfoldedIsChecked.{next_sound, sound_opening}
use Rattle.pl_plan.proofs.VisitsLeave.{bind_ok, ok_is}
use Rattle.source_map.proofs.Growing.{Grows, drawers_in, ended_grows, makers_in}

-- ---- what the leaving of a task leaves

members_of_op : (t n : ℕ) (o : Op) (v r : UnfoldingState) → add_op t n o v ≡ Ok r → r.members ≡ v.members
unfolding add_op
members_of_op t n o v r e =
    let b = bind_ok (fault_unless (nat_lt (sum_by length v.plan.codes) max_ops) too_many_ops n) (λ room. Ok (record v { plan = with_op t o v.plan })) r e in
    let is : record v { plan = with_op t o v.plan } ≡ r = ok_is _ r b.2 in
    ap (λ (q : UnfoldingState). q.members) (sym is)

left_one :
    (t n p : ℕ) (s r : UnfoldingState) (b : Bool) → s.members t p ≡ b → leave t n p s ≡ Ok r → (q : ℕ) → q < suc p → ((k : ℕ) → k < p → s.members t k ≡ false) →
    r.members t q ≡ false
unfolding leave
left_one t n p s r false is e q below earlier =
    let same : Ok s ≡ Ok r =
    subst (λ (b : Bool). (if b then add_op t n (op.Drop (phaser p)) (with_members (with_member t p false s.members) s) else Ok s) ≡ Ok r) is e in
    let here : s.members t q ≡ false = elim (cases_eq q p) [
      | inl own ↦ subst (λ k. s.members t k ≡ false) (sym own) is
      | inr other ↦ earlier q (omega (arith, below, other))
    ] in
    subst (λ (x : UnfoldingState). x.members t q ≡ false) (ok_is s r same) here
left_one t n p s r true is e q below earlier =
    let v = with_members (with_member t p false s.members) s in
    let made : add_op t n (op.Drop (phaser p)) v ≡ Ok r = subst (λ (b : Bool). (if b then add_op t n (op.Drop (phaser p)) v else Ok s) ≡ Ok r) is e in
    ap (λ ms. ms t q) (members_of_op t n (op.Drop (phaser p)) v r made)
    ∙ elim (cases_eq q p) [
      | inl own ↦ subst (λ k. with_member t p false s.members t k ≡ false) (sym own) (member_here t p false s.members)
      | inr other ↦ member_elsewhere t p false s.members t q other ∙ earlier q (omega (arith, below, other))
    ]

-- behind the leaving of each phaser below p the task is a member of none of them
left_below : (t n p : ℕ) (s r : UnfoldingState) → leave_below t n p s ≡ Ok r → (q : ℕ) → q < p → r.members t q ≡ false
unfolding leave_below
left_below t n zero s r e q below = absurd (omega (arith, below))
left_below t n (suc p) s r e q below =
    let b = bind_ok (leave_below t n p s) (leave t n p) r e in
    left_one t n p b.0 r (b.0.members t p) refl b.2 q below (left_below t n p s b.0 b.1)

-- ---- codes and parents fix the last phases

module _ (plan other : Plan) (t : ℕ) (first : (u : ℕ) → 0 < u → parent_of plan u < u) (codes : (u : ℕ) → u ≤ t → actions other u ≡ actions plan u)
    (parents : (u : ℕ) → u ≤ t → parent_of other u ≡ parent_of plan u) where
  action_same : (u : ℕ) → u ≤ t → action_at other u ≡ action_at plan u
  unfolding action_at
  action_same u l = ap slice_get (codes u l)

  first_same : (d u : ℕ) → u ≤ t → first_phases_by other d u ≡ first_phases_by plan d u
  first_same zero u l = refl
  first_same (suc d) zero l = refl
  first_same (suc d) (suc u) l =
      let v = parent_of plan (suc u) in
      let before : v < suc u = first (suc u) (omega arith) in
      let below : v ≤ t = omega (arith, before, l) in
      ap (λ w. registered (action_at other w) (first_phases_by other d w) (suc u) (length (actions other w))) (parents (suc u) l)
      ∙ ap (λ act. registered act (first_phases_by other d v) (suc u) (length (actions other v))) (action_same v below)
      ∙ ap (λ m. registered (action_at plan v) m (suc u) (length (actions other v))) (first_same d v below)
      ∙ ap (λ xs. registered (action_at plan v) (first_phases_by plan d v) (suc u) (length xs)) (codes v below)

  last_same : (u : ℕ) → u ≤ t → last_phases other u ≡ last_phases plan u
  unfolding phases_after first_phases
  last_same u l =
      ap (λ act. own_phases act (first_phases_by other u u) (length (actions other u))) (action_same u l)
      ∙ ap (λ m. own_phases (action_at plan u) m (length (actions other u))) (first_same u u l)
      ∙ ap (λ xs. own_phases (action_at plan u) (first_phases_by plan u u) (length xs)) (codes u l)

-- ---- a task

abbrev pub Holds : Tree → Type 0
Holds body = Unit {0}

pub holds_of_parts : IsOfParts Holds
holds_of_parts = record { of_plain = λ x rest h. tt; of_fork = λ x body rest h. (tt, tt); of_loop = λ k body rest h. (tt, tt) }

-- the forked tasks below t have left their phasers
pub record HaveLeft (t : ℕ) (s : UnfoldingState) : Type 0 where
  pub sound : IsSound t s
  pub kept : Kept Holds holds_of_parts s
  pub root : is_begun s 0 ≡ true
  pub left : (u p : ℕ) → u < t → p < max_phasers → is_begun s u ≡ true → last_phases s.plan u p ≡ None

none_next : (t : ℕ) (s : UnfoldingState) → HaveLeft t s → start_at s t ≡ None → HaveLeft (t + 1) s
none_next t s h none = record {
  sound = next_sound t s h.sound;
  kept = h.kept;
  root = h.root;
  left = λ u p below small begun. elim (cases_lt u t) [
    | inl l ↦ h.left u p l small begun
    | inr l ↦
        let is : u ≡ t = omega (arith, below, l) in
        absurd (false≢true (sym (ap is_some (ap (start_at s) is ∙ none)) ∙ begun))
  ];
}

none_if : {A : Type 0} (o : Option A) → is_some o ≡ false → o ≡ None
none_if None e = refl
none_if (Some x) e = absurd (false≢true (sym e))

code_is : (plan : Plan) (u : ℕ) → code_of plan u ≡ get_or plan.codes u []
code_is plan u = unwrap_or-slice_get plan.codes u []

module _ (t : ℕ) (start : Start) (s r : UnfoldingState) (h : HaveLeft t s) (is : start_at s t ≡ Some start) (e : unfold_task true t (Some start) s ≡ Ok r) where
  abbrev ms : List Visit
  ms = visits_of start.first start.body

  abbrev v : UnfoldingState
  v = with_names start.names s

  parts : (x : UnfoldingState) × (make_visits t ms v ≡ Ok x) × (leave_below t (start.first - 1) max_phasers x ≡ Ok r)
  parts = bind_ok (make_visits t ms v) (leave_below t (start.first - 1) max_phasers) r e

  begun : is_begun s t ≡ true
  begun = ap is_some is

  in_codes : t < length s.plan.codes
  in_codes = inside Holds holds_of_parts t start s h.kept is

  here : t < length s.plan.parents
  here = omega (arith, in_codes, h.kept.codes)

  acting : IsActing t r
  acting =
      let near : NearStart (Some start) = subst NearStart is (h.sound.near t) in
      let all = end_keeps true t (start.first - 1) (make_visits t ms v)
      (comes_keep t ms v (visits_near start.first start.body near)
      (same_acts t s start.names s.visits (record { sound = h.sound; here = here; begun = begun }))) in
      subst (OnState (IsActing t)) e all

  steps : Steps Holds holds_of_parts t s r
  steps =
      let first = steps_same Holds holds_of_parts t s v refl refl refl in_codes h.kept in
      let a = visits_steps Holds holds_of_parts t ms v parts.0 (of_body Holds holds_of_parts start.first start.body tt) first.kept first.here parts.1 in
      let d = leaves_below Holds holds_of_parts t (start.first - 1) max_phasers parts.0 r a.kept a.here parts.2 in
      steps_more Holds holds_of_parts t s v r first (steps_more Holds holds_of_parts t v parts.0 r a d.steps)

  grows : Grows (makers_in t ms) (drawers_in t ms) s r
  grows = ended_grows true t (start.first - 1) ms s v r refl e

  -- the task itself
  own_left : (p : ℕ) → p < max_phasers → last_phases r.plan t p ≡ None
  own_left p small =
      none_if (last_phases r.plan t p)
      (sym (acting.sound.members t p (omega arith) acting.here) ∙ left_below t (start.first - 1) max_phasers parts.0 r parts.2 p small)

  -- those before it
  codes_before : (u w : ℕ) → u < t → w ≤ u → actions r.plan w ≡ actions s.plan w
  unfolding actions
  codes_before u w below l =
      ap actions_of (code_is r.plan w ∙ steps.others w (λ same. absurd (omega (arith, same, l, below))) ∙ sym (code_is s.plan w))

  parents_before : (u w : ℕ) → u < t → w ≤ u → parent_of r.plan w ≡ parent_of s.plan w
  unfolding parent_of
  parents_before u w below l =
      ap number_or_zero (ap (λ ps. slice_get ps w) grows.parents ∙ slice_get-append s.plan.parents _ w (omega (arith, l, below, here)))

  others_same : (u : ℕ) → u < t → last_phases r.plan u ≡ last_phases s.plan u
  others_same u below =
      last_same s.plan r.plan u h.sound.checked.tables.parents_first (λ w l. codes_before u w below l) (λ w l. parents_before u w below l) u (omega arith)

  some_next : HaveLeft (t + 1) r
  some_next = record {
    sound = next_sound t r acting.sound;
    kept = steps.kept;
    root = ap is_some (steps.starts 0 (omega arith)) ∙ h.root;
    left = λ u p below small now. elim (cases_lt u t) [
      | inl l ↦
          ap (λ m. m p) (others_same u l)
          ∙ h.left u p l small (sym (ap is_some (steps.starts u (omega (arith, l)))) ∙ now)
      | inr l ↦ subst (λ k. last_phases r.plan k p ≡ None) (let same : t ≡ u = omega (arith, below, l) in same) (own_left p small)
    ];
  }

-- ---- all tasks

all_left : (n t : ℕ) (s r : UnfoldingState) → HaveLeft t s → unfold_tasks true n t s ≡ Ok r → HaveLeft (t + n) r
all_left = tasks_until true HaveLeft none_next some_next

opening_left : (body : Tree) → AreNear body → HaveLeft 0 (opening_state body)
opening_left body near = record {
  sound = sound_opening body near;
  kept = opening_kept Holds holds_of_parts body tt;
  root = refl;
  left = λ u p below small begun. absurd (omega (arith, below));
}

-- the state at the end of an unfolding in PL 2, whose plan has the codes and parents of the program's
pub record IsEndInTwo (plan : Plan) : Type 0 where
  pub end : UnfoldingState
  pub left : HaveLeft max_tasks end
  pub plan_is : with_pieces end ≡ plan

pub end_in_two : (program : Program) (plan : Plan) → AreNear program.body → program.two ≡ true → plan_of program ≡ Ok plan → IsEndInTwo plan
unfolding plan_of
end_in_two program plan near two e =
    let b = bind_ok (unfold_tasks program.two max_tasks 0 (opening_state program.body)) (λ s. Ok (with_pieces s)) plan e in
    let unfolds : unfold_tasks true max_tasks 0 (opening_state program.body) ≡ Ok b.0 =
    subst (λ (w : Bool). unfold_tasks w max_tasks 0 (opening_state program.body) ≡ Ok b.0) two b.1 in
    record { end = b.0; left = all_left max_tasks 0 (opening_state program.body) b.0 (opening_left program.body near) unfolds; plan_is = ok_is (with_pieces b.0) plan b.2 }
