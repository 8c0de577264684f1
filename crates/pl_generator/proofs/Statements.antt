-- Each statement of a generated program succeeds where what it needs is there, and what it changes.
use Rattle.std.proofs.Common.{◌≡◌, ℕ, ◌+◌, ◌*◌, ◌<◌, ◌≤◌, true, false, not, Some, None, List, [], ◌∷◌, ◌++◌, length, arith, subst, refl, ap}
use Rattle.std.specs.Prelude.{slice_set, slice_index_or, nat_lt}
use Rattle.std.proofs.lemmas.Bool.{le-leb}
use Rattle.std.proofs.lemmas.Bool.Decides.{nat_tests}
use Rattle.std.proofs.lemmas.List.Sums.{sum_by-append}
use Rattle.armus_base.specs.Limits.{max_cells, max_tasks, max_ops}
use Rattle.armus_base.specs.declared.op.Op.TheVariants as op
use Rattle.armus_base.specs.declared.offset.Offset.TheVariants.{Here}
use Rattle.pl_syntax.specs.Tree.{Tree, new_task, reg, dereg, adv, await}
use Rattle.armus_base.specs.Numbers.{phaser, task}
use Rattle.pl_plan.specs.Unfolding.{a_plain, a_fork, a_loop, a_turn, visit, make_visit, UnfoldingState, Start, a_task, a_phaser, add_op, act, act_fork, assigned, with_member, not_member, already_member, has_cells, too_many_cells, too_many_tasks}
use Rattle.pl_generator.proofs.Succeeding.{Succeeds, holds, names_task, names_phaser, is_member, is_own_child, Parts, parts_of, Has, op_fits, visit_fits}

-- ---- changes

-- task 0 draws a task
abbrev pub drawn : List ℕ → Parts → Parts
drawn x a = record {
  parents = a.parents ++ Some (task 0) ∷ [];
  phasers = a.phasers;
  starts = a.starts ++ None ∷ [];
  members = a.members;
  names = assigned x (a_task (length a.parents)) a.names;
}

-- task c is a member of phaser p
abbrev pub registered : ℕ → ℕ → Parts → Parts
registered c p a = record a { members = with_member c p true a.members }

-- task t is none of phaser p
abbrev pub left : ℕ → ℕ → Parts → Parts
left t p a = record a { members = with_member t p false a.members }

-- task c is forked
abbrev pub started : ℕ → Start → Parts → Parts
started c start a = record a { starts = slice_set a.starts c (Some start) }

-- ---- statements

-- one visit more
abbrev visited : UnfoldingState → UnfoldingState
visited s = record s { visits = s.visits + 1 }

module _ (n k : ℕ) (a : Parts) (s : UnfoldingState) (h : Has k a s) (few : k < max_ops) where
  module _ (t : ℕ) where
    idles : Has (k + 1) a (visited s)
    idles = record { parts_are = h.parts_are; visits = omega (arith, h.visits); ops = omega (arith, h.ops) }

    pub loop_fits : Succeeds (Has (k + 1) a) (make_visit t (visit n a_loop) s)
    loop_fits = visit_fits (Has (k + 1) a) t n k a_loop s h.visits few idles

    pub turn_fits : Succeeds (Has (k + 1) a) (make_visit t (visit n a_turn) s)
    turn_fits = visit_fits (Has (k + 1) a) t n k a_turn s h.visits few idles

    module _ (x : List ℕ) (p : ℕ) where
      pub adv_fits : a.names x ≡ Some (a_phaser p) → a.members t p ≡ true → Succeeds (Has (k + 1) a) (make_visit t (visit n (a_plain (adv x))) s)
      unfolding act
      adv_fits =
          subst (λ (b : Parts). b.names x ≡ Some (a_phaser p) → b.members t p ≡ true → Succeeds (Has (k + 1) b) (make_visit t (visit n (a_plain (adv x))) s)) h.parts_are
          (λ e m. visit_fits (Has (k + 1) (parts_of s)) t n k (a_plain (adv x)) s h.visits few
          (is_member (Has (k + 1) (parts_of s)) n t p (s.names x) (visited s) (λ q. add_op t n (op.Adv (phaser q)) (visited s)) e m
          (op_fits t n k (op.Adv (phaser p)) (visited s) (omega (arith, h.visits)) h.ops few)))

      pub await_fits : a.names x ≡ Some (a_phaser p) → a.members t p ≡ true → Succeeds (Has (k + 1) a) (make_visit t (visit n (a_plain (await x Here))) s)
      unfolding act
      await_fits =
          subst (λ (b : Parts). b.names x ≡ Some (a_phaser p) → b.members t p ≡ true → Succeeds (Has (k + 1) b) (make_visit t (visit n (a_plain (await x Here))) s)) h.parts_are
          (λ e m. visit_fits (Has (k + 1) (parts_of s)) t n k (a_plain (await x Here)) s h.visits few
          (is_member (Has (k + 1) (parts_of s)) n t p (s.names x) (visited s) (λ q. add_op t n (op.Await (phaser q) Here) (visited s)) e m
          (op_fits t n k (op.Await (phaser p) Here) (visited s) (omega (arith, h.visits)) h.ops few)))

      pub dereg_fits : a.names x ≡ Some (a_phaser p) → a.members t p ≡ true → Succeeds (Has (k + 1) (left t p a)) (make_visit t (visit n (a_plain (dereg x))) s)
      unfolding act
      dereg_fits =
          subst (λ (b : Parts). b.names x ≡ Some (a_phaser p) → b.members t p ≡ true →
          Succeeds (Has (k + 1) (left t p b)) (make_visit t (visit n (a_plain (dereg x))) s)) h.parts_are
          (λ e m. visit_fits (Has (k + 1) (left t p (parts_of s))) t n k (a_plain (dereg x)) s h.visits few
          (is_member (Has (k + 1) (left t p (parts_of s))) n t p (s.names x) (visited s)
          (λ q. add_op t n (op.Drop (phaser q)) (record s { members = with_member t q false s.members; visits = s.visits + 1 })) e m
          (op_fits t n k (op.Drop (phaser p)) (record s { members = with_member t p false s.members; visits = s.visits + 1 }) (omega (arith, h.visits)) h.ops few)))

  pub new_task_fits :
      (x : List ℕ) → length a.parents < max_tasks → (length a.parents + 1) * (a.phasers + 1) ≤ max_cells →
      Succeeds (Has (k + 1) (drawn x a)) (make_visit 0 (visit n (a_plain (new_task x))) s)
  unfolding act
  new_task_fits x =
      subst
      (λ (b : Parts). length b.parents < max_tasks → (length b.parents + 1) * (b.phasers + 1) ≤ max_cells →
      Succeeds (Has (k + 1) (drawn x b)) (make_visit 0 (visit n (a_plain (new_task x))) s)) h.parts_are
      (λ room cells. visit_fits (Has (k + 1) (drawn x (parts_of s))) 0 n k (a_plain (new_task x)) s h.visits few
      (holds (Has (k + 1) (drawn x (parts_of s))) n (nat_lt (length s.plan.parents) max_tasks) too_many_tasks _ (grind (arith, nat_tests))
      (holds (Has (k + 1) (drawn x (parts_of s))) n (has_cells (length s.plan.parents + 1) (length s.plan.makers)) too_many_cells _
      (le-leb ((length s.plan.parents + 1) * (length s.plan.makers + 1)) max_cells cells)
      (record { parts_are = refl; visits = omega (arith, h.visits); ops = omega (arith, sum_by-append length s.plan.codes ([] ∷ []), h.ops) }))))

  module _ (x : List ℕ) (c : ℕ) where
    pub reg_fits :
        (y : List ℕ) (p : ℕ) → a.names x ≡ Some (a_task c) → a.names y ≡ Some (a_phaser p) → slice_index_or a.parents c None ≡ Some (task 0) →
        slice_index_or a.starts c None ≡ None →
        a.members 0 p ≡ true → a.members c p ≡ false → Succeeds (Has (k + 1) (registered c p a)) (make_visit 0 (visit n (a_plain (reg x y))) s)
    unfolding act
    reg_fits y p =
        subst
        (λ (b : Parts). b.names x ≡ Some (a_task c) → b.names y ≡ Some (a_phaser p) → slice_index_or b.parents c None ≡ Some (task 0) → slice_index_or b.starts c None ≡ None →
        b.members 0 p ≡ true → b.members c p ≡ false → Succeeds (Has (k + 1) (registered c p b)) (make_visit 0 (visit n (a_plain (reg x y))) s)) h.parts_are
        (λ e f d u m o. let P = Has (k + 1) (registered c p (parts_of s)) in
        visit_fits P 0 n k (a_plain (reg x y)) s h.visits few
        (names_task P n (s.names x) c _ e
        (names_phaser P n (s.names y) p _ f
        (is_own_child P n c (visited s) _ d u
        (holds P n (s.members 0 p) not_member _ m
        (holds P n (not (s.members c p)) already_member _ (ap not o)
        (op_fits 0 n k (op.Reg (task c) (phaser p)) (record s { members = with_member c p true s.members; visits = s.visits + 1 }) (omega (arith, h.visits)) h.ops few)))))))

    pub fork_fits :
        (body : Tree) → a.names x ≡ Some (a_task c) → slice_index_or a.parents c None ≡ Some (task 0) → slice_index_or a.starts c None ≡ None →
        Succeeds (Has (k + 1) (started c (record { body = body; first = n + 1; names = a.names }) a)) (make_visit 0 (visit n (a_fork x body)) s)
    unfolding act_fork
    fork_fits body =
        subst
        (λ (b : Parts). b.names x ≡ Some (a_task c) → slice_index_or b.parents c None ≡ Some (task 0) → slice_index_or b.starts c None ≡ None →
        Succeeds (Has (k + 1) (started c (record { body = body; first = n + 1; names = b.names }) b)) (make_visit 0 (visit n (a_fork x body)) s)) h.parts_are
        (λ e d u. let start : Start = record { body = body; first = n + 1; names = s.names } in
        let P = Has (k + 1) (started c start (parts_of s)) in
        visit_fits P 0 n k (a_fork x body) s h.visits few
        (names_task P n (s.names x) c _ e
        (is_own_child P n c (visited s) _ d u
        (op_fits 0 n k (op.Fork (task c)) (record s { starts = slice_set s.starts c (Some start); visits = s.visits + 1 }) (omega (arith, h.visits)) h.ops few))))
