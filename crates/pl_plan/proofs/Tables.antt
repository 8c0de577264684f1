-- How one more op, one more task and one more phaser change a plan's tables and codes.
use Rattle.std.proofs.Common.{◌≡◌, ◌≢◌, ℕ, ◌+◌, ◌<◌, ◌≤◌, Some, List, [], ◌∷◌, ◌++◌, length, arith, sym, ◌∙◌, ap, subst, refl, inl, inr}
use Rattle.std.specs.Prelude.{slice_get, slice_set, slice_index_or, unwrap_or, sum_by}
use Rattle.std.specs.Option.{option_map}
use Rattle.std.proofs.lemmas.Bool.{cases_lt, cases_order}
use Rattle.std.proofs.lemmas.Option.{unwrap_or-slice_get, slice_get_past}
use Rattle.std.proofs.lemmas.List.{length-append, length-set, get_or-set_same, get_or-set_other}
use Rattle.std.proofs.lemmas.List.Sums.{sum_by-set}
use Rattle.armus_base.specs.declared.ids.TaskId.{TaskId}
use Rattle.armus_base.specs.declared.op.Op.{Op}
use Rattle.armus_base.specs.declared.op.Op.TheVariants.{Make, Reg, Fork, Adv, Drop, Await}
use Rattle.armus_base.specs.Numbers.{task}
use Rattle.armus_base.specs.Plans.{Plan, Makes, Registers, Forks, Advances, Drops, Blocks, Passes, actions, actions_of, parent_of, maker_of, number_or_zero}
use Rattle.armus_base.specs.CheckedPlans.{HasTables}
use Rattle.armus_base.proofs.Lists.{slice_get-append, slice_get-behind}
use Rattle.pl_plan.specs.Unfolding.{with_op}

pub actions_of-append : (xs ys : List Op) → actions_of (xs ++ ys) ≡ actions_of xs ++ actions_of ys
actions_of-append [] ys = refl
actions_of-append (Make p ∷ xs) ys = ap (λ zs. Makes p.0 ∷ zs) (actions_of-append xs ys)
actions_of-append (Reg c p ∷ xs) ys = ap (λ zs. Registers c.0 p.0 ∷ zs) (actions_of-append xs ys)
actions_of-append (Fork c ∷ xs) ys = ap (λ zs. Forks c.0 ∷ zs) (actions_of-append xs ys)
actions_of-append (Adv p ∷ xs) ys = ap (λ zs. Advances p.0 ∷ zs) (actions_of-append xs ys)
actions_of-append (Drop p ∷ xs) ys = ap (λ zs. Drops p.0 ∷ zs) (actions_of-append xs ys)
actions_of-append (Await p off ∷ xs) ys = ap (λ zs. Blocks (record { phaser = p.0; off = off }) ∷ (Passes p.0 ∷ zs)) (actions_of-append xs ys)

module _ (plan : Plan) (t : ℕ) (o : Op) where
  pub own_actions : t < length plan.codes → actions (with_op t o plan) t ≡ actions plan t ++ actions_of (o ∷ [])
  unfolding actions
  own_actions here =
      let xs = slice_index_or plan.codes t [] in
      ap actions_of (unwrap_or-slice_get (slice_set plan.codes t (xs ++ o ∷ [])) t [] ∙ get_or-set_same plan.codes t (xs ++ o ∷ []) [] here)
      ∙ actions_of-append xs (o ∷ [])
      ∙ ap (λ zs. actions_of zs ++ actions_of (o ∷ [])) (sym (unwrap_or-slice_get plan.codes t []))

  pub other_actions : (u : ℕ) → u ≢ t → actions (with_op t o plan) u ≡ actions plan u
  unfolding actions
  other_actions u n =
      let xs = slice_index_or plan.codes t [] in
      ap actions_of
      (unwrap_or-slice_get (slice_set plan.codes t (xs ++ o ∷ [])) u [] ∙ get_or-set_other plan.codes t u (xs ++ o ∷ []) [] n ∙ sym (unwrap_or-slice_get plan.codes u []))

  pub one_more_op : t < length plan.codes → sum_by length (with_op t o plan).codes ≡ sum_by length plan.codes + 1
  one_more_op here =
      let a = sum_by-set length plan.codes t (slice_index_or plan.codes t [] ++ o ∷ []) [] here in
      let b = length-append (slice_index_or plan.codes t []) (o ∷ []) in
      omega arith

  pub op_tables : HasTables plan → HasTables (with_op t o plan)
  unfolding parent_of maker_of
  op_tables h =
      record {
        root = h.root;
        drawn = h.drawn;
        parents_first = h.parents_first;
        parents_rise = h.parents_rise;
        makers_rise = h.makers_rise;
        one_code_each = length-set plan.codes t (slice_index_or plan.codes t [] ++ o ∷ []) ∙ h.one_code_each;
      }

-- the last of a list with one more
pub slice_get-last : {A : Type 0} (xs : List A) (x : A) → slice_get (xs ++ x ∷ []) (length xs) ≡ Some x
slice_get-last xs x = ap (slice_get (xs ++ x ∷ [])) (let e : length xs ≡ length xs + 0 = omega arith in e) ∙ slice_get-behind xs (x ∷ []) 0

-- the plan with a phaser more
abbrev pub with_maker : ℕ → Plan → Plan
with_maker t plan = record plan { makers = plan.makers ++ task t ∷ [] }

module _ (plan : Plan) (t : ℕ) where
  pub maker_kept : (p : ℕ) → p < length plan.makers → maker_of (with_maker t plan) p ≡ maker_of plan p
  unfolding maker_of
  maker_kept p l = ap (λ o. number_or_zero (option_map Some o)) (slice_get-append plan.makers (task t ∷ []) p l)

  pub maker_new : maker_of (with_maker t plan) (length plan.makers) ≡ t
  unfolding maker_of
  maker_new = ap (λ o. number_or_zero (option_map Some o)) (slice_get-last plan.makers (task t))

  pub maker_past : (p : ℕ) → length plan.makers < p → maker_of (with_maker t plan) p ≡ 0
  unfolding maker_of
  maker_past p l =
      ap (λ o. number_or_zero (option_map Some o))
      (slice_get_past (plan.makers ++ task t ∷ []) p (omega (arith, length-append plan.makers (task t ∷ []))))

  pub makers_at_most : ((p : ℕ) → maker_of plan p ≤ t) → (p : ℕ) → maker_of (with_maker t plan) p ≤ t
  makers_at_most below p =
      elim (cases_order p (length plan.makers)) [
        | inl e ↦ subst (λ v. maker_of (with_maker t plan) v ≤ t) (sym e) (omega (arith, maker_new))
        | inr (inl l) ↦ omega (arith, maker_kept p l, below p)
        | inr (inr l) ↦ omega (arith, maker_past p l)
      ]

  pub maker_tables : ((p : ℕ) → maker_of plan p ≤ t) → HasTables plan → HasTables (with_maker t plan)
  unfolding parent_of
  maker_tables below h =
      record {
        root = h.root;
        drawn = h.drawn;
        parents_first = h.parents_first;
        parents_rise = h.parents_rise;
        makers_rise = rise;
        one_code_each = h.one_code_each;
      }
    where
      rise : (p q : ℕ) → p ≤ q → q < length (with_maker t plan).makers → maker_of (with_maker t plan) p ≤ maker_of (with_maker t plan) q
      rise p q le l =
          let many = length-append plan.makers (task t ∷ []) in
          elim (cases_lt q (length plan.makers)) [
            | inl old ↦ omega (arith, maker_kept p (omega arith), maker_kept q old, h.makers_rise p q le old)
            | inr new ↦
                (let e : q ≡ length plan.makers = omega arith in
                subst (λ v. maker_of (with_maker t plan) p ≤ maker_of (with_maker t plan) v) (sym e)
                (omega (arith, maker_new, makers_at_most below p)))
          ]

-- the plan with a task more, which has no code yet
abbrev pub with_task : ℕ → Plan → Plan
with_task t plan = record plan { parents = plan.parents ++ Some (task t) ∷ []; codes = plan.codes ++ [] ∷ [] }

module _ (plan : Plan) (t : ℕ) where
  pub parent_kept : (c : ℕ) → c < length plan.parents → parent_of (with_task t plan) c ≡ parent_of plan c
  unfolding parent_of
  parent_kept c l = ap number_or_zero (slice_get-append plan.parents (Some (task t) ∷ []) c l)

  pub parent_new : parent_of (with_task t plan) (length plan.parents) ≡ t
  unfolding parent_of
  parent_new = ap number_or_zero (slice_get-last plan.parents (Some (task t)))

  pub parent_past : (c : ℕ) → length plan.parents < c → parent_of (with_task t plan) c ≡ 0
  unfolding parent_of
  parent_past c l = ap number_or_zero (slice_get_past (plan.parents ++ Some (task t) ∷ []) c (omega (arith, length-append plan.parents (Some (task t) ∷ []))))

  pub parents_at_most : ((c : ℕ) → parent_of plan c ≤ t) → (c : ℕ) → parent_of (with_task t plan) c ≤ t
  parents_at_most below c =
      elim (cases_order c (length plan.parents)) [
        | inl e ↦ subst (λ v. parent_of (with_task t plan) v ≤ t) (sym e) (omega (arith, parent_new))
        | inr (inl l) ↦ omega (arith, parent_kept c l, below c)
        | inr (inr l) ↦ omega (arith, parent_past c l)
      ]

  pub task_actions : (u : ℕ) → actions (with_task t plan) u ≡ actions plan u
  unfolding actions
  task_actions u =
      elim (cases_order u (length plan.codes)) [
        | inl e ↦
            subst (λ v. actions_of (unwrap_or (slice_get (plan.codes ++ [] ∷ []) v) []) ≡ actions_of (unwrap_or (slice_get plan.codes v) [])) (sym e)
            (ap (λ o. actions_of (unwrap_or o [])) (slice_get-last plan.codes []) ∙
            sym (ap (λ o. actions_of (unwrap_or o [])) (slice_get_past plan.codes (length plan.codes) (omega arith))))
        | inr (inl l) ↦ ap (λ o. actions_of (unwrap_or o [])) (slice_get-append plan.codes ([] ∷ []) u l)
        | inr (inr l) ↦
            ap (λ o. actions_of (unwrap_or o []))
            (slice_get_past (plan.codes ++ [] ∷ []) u (omega (arith, length-append plan.codes ([] ∷ []))) ∙ sym (slice_get_past plan.codes u (omega arith)))
      ]

  pub task_tables : t < length plan.parents → ((c : ℕ) → parent_of plan c ≤ t) → HasTables plan → HasTables (with_task t plan)
  unfolding maker_of
  task_tables here below h =
      record {
        root = slice_get-append plan.parents (Some (task t) ∷ []) 0 (omega arith) ∙ h.root;
        drawn = drawn;
        parents_first = first;
        parents_rise = rise;
        makers_rise = h.makers_rise;
        one_code_each = omega (arith, length-append plan.codes ([] ∷ []), length-append plan.parents (Some (task t) ∷ []), h.one_code_each);
      }
    where
      drawn : (c : ℕ) → 0 < c → c < length (with_task t plan).parents → (u : TaskId) × (slice_get (with_task t plan).parents c ≡ Some (Some u))
      drawn c pos l =
          elim (cases_lt c (length plan.parents)) [
            | inl old ↦ (let d = h.drawn c pos old in (d.0, slice_get-append plan.parents (Some (task t) ∷ []) c old ∙ d.1))
            | inr new ↦
                (let e : c ≡ length plan.parents = omega (arith, length-append plan.parents (Some (task t) ∷ [])) in
                (task t, subst (λ v. slice_get (plan.parents ++ Some (task t) ∷ []) v ≡ Some (Some (task t))) (sym e) (slice_get-last plan.parents (Some (task t)))))
          ]

      first : (c : ℕ) → 0 < c → parent_of (with_task t plan) c < c
      first c pos =
          elim (cases_order c (length plan.parents)) [
            | inl e ↦ subst (λ v. parent_of (with_task t plan) v < v) (sym e) (omega (arith, parent_new))
            | inr (inl l) ↦ omega (arith, parent_kept c l, h.parents_first c pos)
            | inr (inr l) ↦ omega (arith, parent_past c l)
          ]

      rise : (c d : ℕ) → 0 < c → c ≤ d → d < length (with_task t plan).parents → parent_of (with_task t plan) c ≤ parent_of (with_task t plan) d
      rise c d pos le l =
          let many = length-append plan.parents (Some (task t) ∷ []) in
          elim (cases_lt d (length plan.parents)) [
            | inl old ↦ omega (arith, parent_kept c (omega arith), parent_kept d old, h.parents_rise c d pos le old)
            | inr new ↦
                (let e : d ≡ length plan.parents = omega arith in
                subst (λ v. parent_of (with_task t plan) c ≤ parent_of (with_task t plan) v) (sym e)
                (omega (arith, parent_new, parents_at_most below c)))
          ]
