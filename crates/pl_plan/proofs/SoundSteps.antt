-- Each visit keeps a state of the unfolding sound.
use Rattle.std.proofs.Common.{◌≡◌, ◌≢◌, ℕ, zero, suc, ◌+◌, ◌*◌, ◌<◌, ◌≤◌, Bool, true, false, not, Some, None, Ok, Err, Option, List, [], ◌∷◌, ◌++◌, length, arith, sym, ◌∙◌, ap, subst, refl, inl, inr, ◌⊎◌}
use Rattle.std.specs.Prelude.{slice_get, slice_set, slice_index_or, is_some, nat_lt, sum_by, if◌then◌else◌}
use Rattle.std.proofs.lemmas.Bool.{cases_lt, cases_eq, false≢true, eqb-true, leb-true, ltb-true}
use Rattle.std.proofs.lemmas.Bool.Decides.{nat_tests}
use Rattle.std.proofs.lemmas.List.{append-nil, length-append, length-set, get_or-set_same, get_or-set_other, get_or_past}
use Rattle.std.proofs.lemmas.List.Sums.{sum_by-append}
use Rattle.std.proofs.lemmas.Option.{slice_get-get_or}
use Rattle.pl_plan.specs.Limits.{max_visits}
use Rattle.armus_base.specs.Limits.{max_cells, max_tasks, max_phasers, max_ops}
use Rattle.armus_base.specs.declared.ids.TaskId.{TaskId}
use Rattle.armus_base.specs.declared.offset.Offset.{Offset}
use Rattle.armus_base.specs.Offsets.{IsNear}
use Rattle.armus_base.specs.declared.op.Op.{Op}
use Rattle.armus_base.specs.declared.op.Op.TheVariants as op
use Rattle.armus_base.specs.Numbers.{phaser, task}
use Rattle.armus_base.specs.Plans.{Action, Makes, Registers, Forks, Advances, Drops, Blocks, Passes, IsParentOf, Plan, action_at, actions, actions_of, parent_of, maker_of}
use Rattle.armus_base.specs.States.{Phases, updated, next_phase}
use Rattle.armus_base.specs.Places.{first_phases, phases_after, register_step, registered_by}
use Rattle.armus_base.specs.calls.CheckedPlans.{Grows}
use Rattle.armus_base.specs.CheckedPlans.{HasTables, IsMemberAfter, IsWellFormed, IsWithinLimits, NotBefore}
use Rattle.armus_base.proofs.Fixed.{first_phases_is, register_step_keeps}
use Rattle.armus_base.proofs.Codes.{child_later, child_within, parent_is, phaser_within}
use Rattle.pl_syntax.specs.Tree.{Plain, new_task, new_phaser, reg, dereg, adv, await, skip, Tree, count, done, plain, fork, loop}
use Rattle.pl_syntax.specs.calls.Tree.{AreNear, PlainIsNear}
use Rattle.pl_plan.proofs.Places.{at_set, at_more}
use Rattle.armus_base.specs.Pieces.{times}
use Rattle.armus_base.proofs.PlanGrows.{own_at, fixed_own}
use Rattle.armus_base.proofs.RunTests.{some_is}
use Rattle.pl_plan.specs.Unfolding.{Coming, a_plain, a_fork, a_loop, a_turn, Visit, come_to, make_visit, make_visits, UnfoldingState, Start, Names, Thing, a_task, a_phaser, Outcome, ◌>>=◌, fault_unless, as_task, as_phaser, is_parent, unforked_child, member_of, add_op, act, act_fork, count_visit, with_op, with_member, assigned, not_member, already_member, not_drawn_here, already_forked, has_cells, too_many_cells, too_many_tasks, too_many_phasers, too_many_ops, too_many_visits, visit, visits_of, leave, leave_below, ended, with_members}
use Rattle.pl_plan.proofs.Growth.{own_steps, register_steps, last_phases, first_new, nobody_registers, stays_registered}
use Rattle.pl_plan.proofs.Tables.{own_actions, other_actions, one_more_op, op_tables, with_maker, maker_new, makers_at_most, maker_tables, with_task, parent_new, parents_at_most, task_actions, task_tables, slice_get-last}
use Rattle.pl_plan.proofs.Sound.{IsAt, IsActing, IsNew, HasStarts, HasMembers, is_begun, idle_phases, acts_on, NearStart}

-- ---- awaits that look no farther than they may

abbrev IsNearComing : Coming → Type 0
IsNearComing (a_plain x) = PlainIsNear x
IsNearComing (a_fork x body) = AreNear body
IsNearComing c = Unit {0}

abbrev AreNearVisits : List Visit → Type 0
AreNearVisits [] = Unit {0}
AreNearVisits (m ∷ ms) = IsNearComing m.coming × AreNearVisits ms

near_more : (xs ys : List Visit) → AreNearVisits xs → AreNearVisits ys → AreNearVisits (xs ++ ys)
near_more [] ys a b = b
near_more (x ∷ xs) ys a b = (a.0, near_more xs ys a.1 b)

near_times : (k : ℕ) (xs : List Visit) → AreNearVisits xs → AreNearVisits (times k xs)
near_times zero xs a = tt
near_times (suc k) xs a = near_more xs (times k xs) a (near_times k xs a)

-- the visits of a body
pub visits_near : (n : ℕ) (body : Tree) → AreNear body → AreNearVisits (visits_of n body)
visits_near n done near = tt
visits_near n (plain s rest) near = (near.0, visits_near (n + 1) rest near.1)
visits_near n (fork x body rest) near = (near.0, visits_near (n + 1 + count body) rest near.1)
visits_near n (loop k body rest) near = (
  tt,
  near_more (times k (visit n a_turn ∷ visits_of (n + 1) body)) (visits_of (n + 1 + count body) rest)
      (near_times k (visit n a_turn ∷ visits_of (n + 1) body) (tt, visits_near (n + 1) body near.0)) (visits_near (n + 1 + count body) rest near.1),
)

-- ---- what holds of the state of an outcome

abbrev pub OnState : (UnfoldingState → Type 0) → Outcome UnfoldingState → Type 0
OnState P (Ok s) = P s
OnState P (Err f) = Unit {0}

on_fault_unless : (P : UnfoldingState → Type 0) (b : Bool) (kind n : ℕ) (f : Outcome UnfoldingState) → (b ≡ true → OnState P f) → OnState P (fault_unless b kind n >>= λ _. f)
on_fault_unless P true kind n f h = h refl
on_fault_unless P false kind n f h = tt

on_task : (P : UnfoldingState → Type 0) (n : ℕ) (o : Option Thing) (f : ℕ → Outcome UnfoldingState) → ((c : ℕ) → OnState P (f c)) → OnState P (as_task n o >>= f)
on_task P n None f h = tt
on_task P n (Some (a_task c)) f h = h c
on_task P n (Some (a_phaser p)) f h = tt

on_phaser : (P : UnfoldingState → Type 0) (n : ℕ) (o : Option Thing) (f : ℕ → Outcome UnfoldingState) → ((p : ℕ) → OnState P (f p)) → OnState P (as_phaser n o >>= f)
on_phaser P n None f h = tt
on_phaser P n (Some (a_task c)) f h = tt
on_phaser P n (Some (a_phaser p)) f h = h p

on_member :
    (P : UnfoldingState → Type 0) (t n : ℕ) (o : Option Thing) (s : UnfoldingState) (f : ℕ → Outcome UnfoldingState) → ((p : ℕ) → s.members t p ≡ true → OnState P (f p)) →
    OnState P (member_of t n o s >>= f)
unfolding member_of
on_member P t n None s f h = tt
on_member P t n (Some (a_task c)) s f h = tt
on_member P t n (Some (a_phaser p)) s f h = by (s.members t p) refl
  where
    by : (b : Bool) → s.members t p ≡ b → OnState P ((fault_unless b not_member n >>= λ _. Ok p) >>= f)
    by true e = h p e
    by false e = tt

on_unforked_child :
    (P : UnfoldingState → Type 0) (t n c : ℕ) (s : UnfoldingState) (f : Outcome UnfoldingState) →
    (is_parent t (slice_index_or s.plan.parents c None) ≡ true → is_begun s c ≡ false → OnState P f) → OnState P (unforked_child t n c s >>= λ _. f)
on_unforked_child P t n c s f h = by (is_parent t (slice_index_or s.plan.parents c None)) (is_begun s c) refl refl
  where
    by :
        (a b : Bool) → is_parent t (slice_index_or s.plan.parents c None) ≡ a → is_begun s c ≡ b →
        OnState P ((fault_unless a not_drawn_here n >>= λ _. fault_unless (not b) already_forked n) >>= λ _. f)
    by false b d e = tt
    by true true d e = tt
    by true false d e = h d e

-- ---- lists of one or two actions

one_new : (x : Action) (P : ℕ → Action → Type 0) → P 0 x → (i : ℕ) (y : Action) → slice_get (x ∷ []) i ≡ Some y → P i y
one_new x P h zero y e = subst (P 0) (let q : x ≡ y = cc in q) h
one_new x P h (suc i) y e = absurd cc

two_new : (x z : Action) (P : ℕ → Action → Type 0) → P 0 x → P 1 z → (i : ℕ) (y : Action) → slice_get (x ∷ (z ∷ [])) i ≡ Some y → P i y
two_new x z P h k zero y e = subst (P 0) (let q : x ≡ y = cc in q) h
two_new x z P h k (suc zero) y e = subst (P 1) (let q : z ≡ y = cc in q) k
two_new x z P h k (suc (suc i)) y e = absurd cc

-- ---- members

pub member_other : (t p : ℕ) (v : Bool) (ms : ℕ → ℕ → Bool) (u q : ℕ) → u ≢ t → with_member t p v ms u q ≡ ms u q
member_other t p v ms u q n = grind (arith, nat_tests)

pub member_elsewhere : (t p : ℕ) (v : Bool) (ms : ℕ → ℕ → Bool) (u q : ℕ) → q ≢ p → with_member t p v ms u q ≡ ms u q
member_elsewhere t p v ms u q n = grind (arith, nat_tests)

pub member_here : (t p : ℕ) (v : Bool) (ms : ℕ → ℕ → Bool) → with_member t p v ms t p ≡ v
member_here t p v ms = grind (arith, nat_tests)

updated_here : (m : Phases) (p : ℕ) (w : Option ℕ) → updated m p w p ≡ w
updated_here m p w = grind (arith, nat_tests)

updated_elsewhere : (m : Phases) (p : ℕ) (w : Option ℕ) (q : ℕ) → q ≢ p → updated m p w q ≡ m q
updated_elsewhere m p w q n = grind (arith, nat_tests)

-- a member more or less, where a phase is set or taken away
set_member :
    (t p : ℕ) (v : Bool) (ms : ℕ → ℕ → Bool) (m : Phases) (w : Option ℕ) → ((q : ℕ) → ms t q ≡ is_some (m q)) → v ≡ is_some w →
    (q : ℕ) → with_member t p v ms t q ≡ is_some (updated m p w q)
set_member t p v ms m w same e q =
    elim (cases_eq q p) [
      | inl here ↦
          subst (λ z. with_member t p v ms t z ≡ is_some (updated m p w z)) (sym here)
          (member_here t p v ms ∙ e ∙ sym (ap is_some (updated_here m p w)))
      | inr there ↦ member_elsewhere t p v ms t q there ∙ same q ∙ sym (ap is_some (updated_elsewhere m p w q there))
    ]

next_is_some : (o : Option ℕ) → is_some o ≡ is_some (next_phase o)
next_is_some None = refl
next_is_some (Some n) = refl

advanced_member : (m : Phases) (p q : ℕ) → is_some (m q) ≡ is_some (updated m p (next_phase (m p)) q)
advanced_member m p q =
    elim (cases_eq q p) [
      | inl here ↦
          subst (λ z. is_some (m z) ≡ is_some (updated m p (next_phase (m p)) z)) (sym here)
          (next_is_some (m p) ∙ sym (ap is_some (updated_here m p (next_phase (m p)))))
      | inr there ↦ sym (ap is_some (updated_elsewhere m p (next_phase (m p)) q there))
    ]

register_here : (c p : ℕ) (m r : Phases) → register_step (Some (Registers c p)) c m r ≡ updated r p (m p)
register_here c p m r = grind (arith, nat_tests)

-- ---- one op more

abbrev pub state_of : Plan → List (Option Start) → (ℕ → ℕ → Bool) → Names → ℕ → UnfoldingState
state_of plan starts members names visits = record { plan = plan; starts = starts; members = members; names = names; visits = visits }

module _ (t : ℕ) (s : UnfoldingState) (a : IsActing t s) where
  members_own : (p : ℕ) → s.members t p ≡ is_some (last_phases s.plan t p)
  members_own p = a.sound.members t p (omega arith) a.here

  is_member : (p : ℕ) → s.members t p ≡ true → IsMemberAfter s.plan t (length (actions s.plan t)) p
  is_member p e = some_is (last_phases s.plan t p) (sym (members_own p) ∙ e)

  has_code : t < length s.plan.codes
  has_code = omega (arith, a.here, a.sound.checked.tables.one_code_each)

  module _ (o : Op) where
    abbrev grows_op : Grows s.plan (with_op t o s.plan) t
    grows_op =
        record {
          here = a.here;
          parents = ([], sym (append-nil s.plan.parents));
          makers = ([], sym (append-nil s.plan.makers));
          own = (actions_of (o ∷ []), own_actions s.plan t o has_code);
          others = other_actions s.plan t o;
          later = a.sound.at.later;
        }

    limits_op : nat_lt (sum_by length s.plan.codes) max_ops ≡ true → IsWithinLimits (with_op t o s.plan)
    limits_op e =
        record {
          few_tasks = a.sound.checked.limits.few_tasks;
          few_phasers = a.sound.checked.limits.few_phasers;
          few_cells = a.sound.checked.limits.few_cells;
          few_ops = omega (arith, one_more_op s.plan t o has_code, ltb-true (sum_by length s.plan.codes) max_ops e);
        }

    at_op : IsAt t (with_op t o s.plan)
    unfolding parent_of maker_of
    at_op =
        record {
          later = λ u l. other_actions s.plan t o u (λ e. absurd (omega arith)) ∙ a.sound.at.later u l;
          parents = a.sound.at.parents;
          makers = a.sound.at.makers;
        }

    -- the op's actions do not come before it
    not_before : (x : Action) → ((j : ℕ) → j < length (actions s.plan t) → action_at s.plan t j ≢ Some x) → NotBefore (with_op t o s.plan) t (length (actions s.plan t) + 0) x
    not_before x h j l e =
        let before : j < length (actions s.plan t) = omega arith in
        h j before (sym (own_at s.plan (with_op t o s.plan) t a.sound.checked grows_op (op_tables s.plan t o a.sound.checked.tables) j before) ∙ e)

    member_now : (p : ℕ) → s.members t p ≡ true → IsMemberAfter (with_op t o s.plan) t (length (actions s.plan t) + 0) p
    member_now p e =
        let h = is_member p e in (
          h.0,
          ap (λ m. m p)
              (fixed_own s.plan (with_op t o s.plan) t a.sound.checked grows_op (op_tables s.plan t o a.sound.checked.tables) (length (actions s.plan t) + 0)
              (omega arith)
              ∙ ap (phases_after s.plan t) (let z : length (actions s.plan t) + 0 ≡ length (actions s.plan t) = omega arith in z))
              ∙ h.1,
        )

    -- an op that makes no phaser
    new_op :
        ((i : ℕ) (x : Action) → slice_get (actions_of (o ∷ [])) i ≡ Some x → IsWellFormed (with_op t o s.plan) t (length (actions s.plan t) + i) x) →
        ((i q : ℕ) → slice_get (actions_of (o ∷ [])) i ≢ Some (Makes q)) → IsNew t s.plan (with_op t o s.plan) (actions_of (o ∷ []))
    new_op well none =
        record {
          well_formed = well;
          makes = λ i q e. absurd (none i q e);
          made = λ p l within. absurd (omega arith);
          drawn = λ c l within. absurd (omega arith);
        }

    -- an op that forks nobody
    same_starts :
        (members : ℕ → ℕ → Bool) (names : Names) (visits : ℕ) → ((i c : ℕ) → slice_get (actions_of (o ∷ [])) i ≢ Some (Forks c)) →
        HasStarts t s (state_of (with_op t o s.plan) s.starts members names visits) (actions_of (o ∷ []))
    same_starts members names visits none =
        record { many = a.sound.starts; stay = λ c e. e; begins = λ c e. inl e; forks = λ i c e. absurd (none i c e); near = a.sound.near }

    -- an op that registers nobody
    own_members :
        (starts : List (Option Start)) (members : ℕ → ℕ → Bool) (names : Names) (visits : ℕ) →
        ((p : ℕ) → members t p ≡ is_some (own_steps (actions_of (o ∷ [])) (last_phases s.plan t) p)) →
        ((u p : ℕ) → u ≢ t → members u p ≡ s.members u p) →
        ((u : ℕ) (m r : Phases) → register_steps (actions_of (o ∷ [])) u m r ≡ r) →
        HasMembers t s (state_of (with_op t o s.plan) starts members names visits) (actions_of (o ∷ []))
    own_members starts members names visits own others none =
        record {
          own = own;
          child =
              λ u p l within child. others u p (λ e. absurd (omega arith))
              ∙ a.sound.members u p (omega arith) within
              ∙ ap (λ m. is_some (m p)) (idle_phases s.plan u (a.sound.at.later u l))
              ∙ sym (ap (λ m. is_some (m p)) (none u (last_phases s.plan t) (first_phases s.plan u)));
          others = λ u p l within stranger. others u p (λ e. absurd (omega arith));
          outside = λ u p l. others u p (λ e. absurd (let h = a.here in omega arith)) ∙ a.sound.outside u p l;
          drawn = λ u p l within. absurd (omega arith);
        }

    op_acts :
        (starts : List (Option Start)) (members : ℕ → ℕ → Bool) (names : Names) (visits : ℕ) →
        nat_lt (sum_by length s.plan.codes) max_ops ≡ true →
        IsNew t s.plan (with_op t o s.plan) (actions_of (o ∷ [])) →
        HasStarts t s (state_of (with_op t o s.plan) starts members names visits) (actions_of (o ∷ [])) →
        HasMembers t s (state_of (with_op t o s.plan) starts members names visits) (actions_of (o ∷ [])) →
        IsActing t (state_of (with_op t o s.plan) starts members names visits)
    op_acts starts members names visits few new has_starts has_members =
        acts_on t s (state_of (with_op t o s.plan) starts members names visits) a grows_op (op_tables s.plan t o a.sound.checked.tables) new (limits_op few)
        at_op has_starts has_members

  pub adv_acts : (p n : ℕ) → s.members t p ≡ true → OnState (IsActing t) (add_op t n (op.Adv (phaser p)) s)
  unfolding add_op
  adv_acts p n e =
      on_fault_unless (IsActing t) (nat_lt (sum_by length s.plan.codes) max_ops) too_many_ops n _
      (λ few. op_acts (op.Adv (phaser p)) s.starts s.members s.names s.visits few
      (new_op (op.Adv (phaser p)) (one_new (Advances p) (λ i x. IsWellFormed (with_op t (op.Adv (phaser p)) s.plan) t (length (actions s.plan t) + i) x)
      (member_now (op.Adv (phaser p)) p e))
      (λ i q f. one_new (Advances p) (λ i x. (q : ℕ) → x ≢ Makes q) (λ q g. cc) i (Makes q) f q refl))
      (same_starts (op.Adv (phaser p)) s.members s.names s.visits (λ i c f. one_new (Advances p) (λ i x. (c : ℕ) → x ≢ Forks c) (λ c g. cc) i (Forks c) f c refl))
      (own_members (op.Adv (phaser p)) s.starts s.members s.names s.visits (λ q. members_own q ∙ advanced_member (last_phases s.plan t) p q) (λ u q n. refl) (λ u m r. refl)))

  pub dereg_acts : (p n : ℕ) → s.members t p ≡ true → OnState (IsActing t) (add_op t n (op.Drop (phaser p)) (record s { members = with_member t p false s.members }))
  unfolding add_op
  dereg_acts p n e =
      on_fault_unless (IsActing t) (nat_lt (sum_by length s.plan.codes) max_ops) too_many_ops n _
      (λ few. op_acts (op.Drop (phaser p)) s.starts (with_member t p false s.members) s.names s.visits few
      (new_op (op.Drop (phaser p)) (one_new (Drops p) (λ i x. IsWellFormed (with_op t (op.Drop (phaser p)) s.plan) t (length (actions s.plan t) + i) x)
      (member_now (op.Drop (phaser p)) p e))
      (λ i q f. one_new (Drops p) (λ i x. (q : ℕ) → x ≢ Makes q) (λ q g. cc) i (Makes q) f q refl))
      (same_starts (op.Drop (phaser p)) (with_member t p false s.members) s.names s.visits
      (λ i c f. one_new (Drops p) (λ i x. (c : ℕ) → x ≢ Forks c) (λ c g. cc) i (Forks c) f c refl))
      (own_members (op.Drop (phaser p)) s.starts (with_member t p false s.members) s.names s.visits
      (set_member t p false s.members (last_phases s.plan t) None members_own refl) (λ u q n. member_other t p false s.members u q n) (λ u m r. refl)))

  pub await_acts : (p n : ℕ) (off : Offset) → IsNear off → s.members t p ≡ true → OnState (IsActing t) (add_op t n (op.Await (phaser p) off) s)
  unfolding add_op
  await_acts p n off near e =
      on_fault_unless (IsActing t) (nat_lt (sum_by length s.plan.codes) max_ops) too_many_ops n _
      (λ few. op_acts (op.Await (phaser p) off) s.starts s.members s.names s.visits few
      (new_op (op.Await (phaser p) off)
      (two_new (Blocks (record { phaser = p; off = off })) (Passes p)
      (λ i x. IsWellFormed (with_op t (op.Await (phaser p) off) s.plan) t (length (actions s.plan t) + i) x)
      (member_now (op.Await (phaser p) off) p e, near) tt)
      (λ i q f. two_new (Blocks (record { phaser = p; off = off })) (Passes p) (λ i x. (q : ℕ) → x ≢ Makes q) (λ q g. cc) (λ q g. cc) i (Makes q) f q refl))
      (same_starts (op.Await (phaser p) off) s.members s.names s.visits
      (λ i c f. two_new (Blocks (record { phaser = p; off = off })) (Passes p) (λ i x. (c : ℕ) → x ≢ Forks c) (λ c g. cc) (λ c g. cc) i (Forks c) f c refl))
      (own_members (op.Await (phaser p) off) s.starts s.members s.names s.visits members_own (λ u q n. refl) (λ u m r. refl)))

  -- ---- children

  -- whom the test finds drawn is a child
  child_of : (c : ℕ) → is_parent t (slice_index_or s.plan.parents c None) ≡ true → IsParentOf s.plan t c
  child_of c e = by (slice_index_or s.plan.parents c None) refl e
    where
      at_place : (u : TaskId) → slice_index_or s.plan.parents c None ≡ Some u → slice_get s.plan.parents c ≡ Some (Some u)
      at_place u is =
          elim (cases_lt c (length s.plan.parents)) [
            | inl l ↦ slice_get-get_or s.plan.parents c None l ∙ ap Some is
            | inr l ↦ absurd (let n : slice_index_or s.plan.parents c None ≡ None = get_or_past s.plan.parents c None l in cc)
          ]

      by : (o : Option TaskId) → slice_index_or s.plan.parents c None ≡ o → is_parent t o ≡ true → IsParentOf s.plan t c
      by None is f = absurd (false≢true f)
      by (Some u) is f = (u, at_place u is, sym (eqb-true t u.0 f))

  module _ (c : ℕ) (mine : is_parent t (slice_index_or s.plan.parents c None) ≡ true) (unforked : is_begun s c ≡ false) where
    child : IsParentOf s.plan t c
    child = child_of c mine

    child_above : t < c
    child_above = child_later s.plan a.sound.checked.tables t c child

    child_inside : c < length s.plan.parents
    child_inside = child_within s.plan t c child

    not_forked : (j : ℕ) → action_at s.plan t j ≢ Some (Forks c)
    not_forked j e = a.sound.unforked c j unforked (subst (λ v. action_at s.plan v j ≡ Some (Forks c)) (sym (parent_is s.plan t c child)) e)

    fork_starts :
        (start : Start) → AreNear start.body → HasStarts t s
        (state_of (with_op t (op.Fork (task c)) s.plan) (slice_set s.starts c (Some start)) s.members s.names s.visits) (actions_of (op.Fork (task c) ∷ []))
    unfolding parent_of
    fork_starts start near =
        record {
          many = length-set s.starts c (Some start) ∙ a.sound.starts;
          stay = λ d e. at_set (λ o. is_some o ≡ true) s.starts c (Some start) None d (λ h l. refl) (λ n. e) (λ l. absurd (let i = child_inside in
              let m = a.sound.starts in omega arith));
          begins = begins;
          forks = λ i d e. one_new (Forks c) (λ i x. (d : ℕ) → x ≡ Forks d → is_some (slice_index_or (slice_set s.starts c (Some start)) d None) ≡ true)
              (λ d g. let same : c ≡ d = (let q : Forks c ≡ Forks d = g in cc) in subst (λ v. is_some (slice_index_or (slice_set s.starts c (Some start)) v None) ≡ true) same (ap is_some (get_or-set_same s.starts c (Some start) None here)))
              i (Forks d) e d refl;
          near = λ d. at_set NearStart s.starts c (Some start) None d (λ h l. near) (λ n. a.sound.near d) (λ l. tt);
        }
      where
        here : c < length s.starts
        here = omega (arith, child_inside, a.sound.starts)

        begins : (d : ℕ) → is_some (slice_index_or (slice_set s.starts c (Some start)) d None) ≡ true →
            (is_begun s d ≡ true) ⊎ ((parent_of s.plan d ≡ t) × (slice_get (Forks c ∷ []) 0 ≡ Some (Forks d)))
        begins d e =
            elim (cases_eq d c) [
              | inl same ↦ inr (ap (parent_of s.plan) same ∙ parent_is s.plan t c child, ap (λ v. Some (Forks v)) (sym same))
              | inr other ↦ inl (ap is_some (sym (get_or-set_other s.starts c d (Some start) None other)) ∙ e)
            ]

    pub fork_acts : (n : ℕ) (start : Start) → AreNear start.body → OnState (IsActing t) (add_op t n (op.Fork (task c)) (record s { starts = slice_set s.starts c (Some start) }))
    unfolding add_op
    fork_acts n start near =
        on_fault_unless (IsActing t) (nat_lt (sum_by length s.plan.codes) max_ops) too_many_ops n _
        (λ few. op_acts (op.Fork (task c)) (slice_set s.starts c (Some start)) s.members s.names s.visits few
        (new_op (op.Fork (task c))
        (one_new (Forks c) (λ i x. IsWellFormed (with_op t (op.Fork (task c)) s.plan) t (length (actions s.plan t) + i) x)
        (child, not_before (op.Fork (task c)) (Forks c) (λ j l. not_forked j)))
        (λ i q f. one_new (Forks c) (λ i x. (q : ℕ) → x ≢ Makes q) (λ q g. cc) i (Makes q) f q refl))
        (fork_starts start near)
        (own_members (op.Fork (task c)) (slice_set s.starts c (Some start)) s.members s.names s.visits members_own (λ u q n. refl) (λ u m r. refl)))

    module _ (p : ℕ) (inside : s.members t p ≡ true) (outside : s.members c p ≡ false) where
      -- nobody is registered twice
      not_registered : (j : ℕ) → j < length (actions s.plan t) → action_at s.plan t j ≢ Some (Registers c p)
      not_registered j l e =
          let was = stays_registered s.plan a.sound.checked t c p j (length (actions s.plan t)) l e in
          let now : s.members c p ≡ true =
          a.sound.members c p (let h = child_above in omega arith) child_inside
          ∙ ap (λ m. is_some (m p)) (idle_phases s.plan c (a.sound.at.later c child_above))
          ∙ ap (λ m. is_some (m p)) (first_registered)
          ∙ ap is_some was.1 in
          false≢true (sym outside ∙ now)
        where
          first_registered : first_phases s.plan c ≡ registered_by s.plan t c (length (actions s.plan t))
          first_registered =
              first_phases_is s.plan a.sound.checked c (let h = child_above in omega arith)
              ∙ ap (λ v. registered_by s.plan v c (length (actions s.plan v))) (parent_is s.plan t c child)

      reg_members :
          HasMembers t s (state_of (with_op t (op.Reg (task c) (phaser p)) s.plan) s.starts (with_member c p true s.members) s.names s.visits)
          (actions_of (op.Reg (task c) (phaser p) ∷ []))
      reg_members =
          record {
            own = λ q. member_other c p true s.members t q (λ e. absurd (let h = child_above in omega arith)) ∙ members_own q;
            child = registers;
            others = λ u q l within stranger. member_other c p true s.members u q (λ e. stranger (ap (parent_of s.plan) e ∙ parent_is s.plan t c child));
            outside = λ u q l. member_other c p true s.members u q (λ e. absurd (let h = child_inside in omega arith)) ∙ a.sound.outside u q l;
            drawn = λ u q l within. absurd (omega arith);
          }
        where
          own_phase : is_some (last_phases s.plan t p) ≡ true
          own_phase = sym (members_own p) ∙ inside

          before : (u q : ℕ) → t < u → u < length s.plan.parents → s.members u q ≡ is_some (first_phases s.plan u q)
          before u q l within = a.sound.members u q (omega arith) within ∙ ap (λ m. is_some (m q)) (idle_phases s.plan u (a.sound.at.later u l))

          registers :
              (u q : ℕ) → t < u → u < length s.plan.parents → parent_of s.plan u ≡ t →
              with_member c p true s.members u q ≡ is_some (register_steps (Registers c p ∷ []) u (last_phases s.plan t) (first_phases s.plan u) q)
          registers u q l within mine =
              elim (cases_eq u c) [
                | inr other ↦
                    member_other c p true s.members u q other ∙ before u q l within
                    ∙ sym (ap (λ m. is_some (m q)) (register_step_keeps (Some (Registers c p)) u (last_phases s.plan t) (first_phases s.plan u)
                    (λ z e. other (let g : c ≡ u = cc in sym g))))
                | inl same ↦
                    subst (λ v. with_member c p true s.members v q ≡ is_some (register_steps (Registers c p ∷ []) v (last_phases s.plan t) (first_phases s.plan v) q)) (sym same)
                    (set_member c p true s.members (first_phases s.plan c) (last_phases s.plan t p) (λ z. before c z child_above child_inside) (sym own_phase) q
                    ∙ sym (ap (λ m. is_some (m q)) (register_here c p (last_phases s.plan t) (first_phases s.plan c))))
              ]

      pub reg_acts : (n : ℕ) → OnState (IsActing t) (add_op t n (op.Reg (task c) (phaser p)) (record s { members = with_member c p true s.members }))
      unfolding add_op
      reg_acts n =
          on_fault_unless (IsActing t) (nat_lt (sum_by length s.plan.codes) max_ops) too_many_ops n _
          (λ few. op_acts (op.Reg (task c) (phaser p)) s.starts (with_member c p true s.members) s.names s.visits few
          (new_op (op.Reg (task c) (phaser p))
          (one_new (Registers c p) (λ i x. IsWellFormed (with_op t (op.Reg (task c) (phaser p)) s.plan) t (length (actions s.plan t) + i) x) (
            child,
            not_before (op.Reg (task c) (phaser p)) (Forks c) (λ j l. not_forked j),
            not_before (op.Reg (task c) (phaser p)) (Registers c p) not_registered,
            member_now (op.Reg (task c) (phaser p)) p inside,
          ))
          (λ i q f. one_new (Registers c p) (λ i x. (q : ℕ) → x ≢ Makes q) (λ q g. cc) i (Makes q) f q refl))
          (same_starts (op.Reg (task c) (phaser p)) (with_member c p true s.members) s.names s.visits
          (λ i d f. one_new (Registers c p) (λ i x. (d : ℕ) → x ≢ Forks d) (λ d g. cc) i (Forks d) f d refl))
          reg_members)

  -- ---- a phaser more

  abbrev make : Op
  make = op.Make (phaser (length s.plan.makers))

  abbrev plan_made : Plan
  plan_made = with_op t make (with_maker t s.plan)

  make_own : actions plan_made t ≡ actions s.plan t ++ actions_of (make ∷ [])
  unfolding actions
  make_own = own_actions (with_maker t s.plan) t make has_code

  make_others : (u : ℕ) → u ≢ t → actions plan_made u ≡ actions s.plan u
  unfolding actions
  make_others u n = other_actions (with_maker t s.plan) t make u n

  abbrev grows_make : Grows s.plan plan_made t
  grows_make =
      record {
        here = a.here;
        parents = ([], sym (append-nil s.plan.parents));
        makers = (task t ∷ [], refl);
        own = (actions_of (make ∷ []), make_own);
        others = make_others;
        later = a.sound.at.later;
      }

  make_at : IsAt t plan_made
  unfolding parent_of maker_of
  make_at =
      record {
        later = λ u l. make_others u (λ e. absurd (omega arith)) ∙ a.sound.at.later u l;
        parents = a.sound.at.parents;
        makers = makers_at_most s.plan t a.sound.at.makers;
      }

  make_maker : maker_of plan_made (length s.plan.makers) ≡ t
  unfolding maker_of
  make_maker = maker_new s.plan t

  make_new : IsNew t s.plan plan_made (actions_of (make ∷ []))
  make_new =
      record {
        well_formed =
            one_new (Makes (length s.plan.makers)) (λ i x. IsWellFormed plan_made t (length (actions s.plan t) + i) x) (
              (task t, slice_get-last s.plan.makers (task t), refl),
              λ j l e. let before : j < length (actions s.plan t) = omega arith in
                  let was : action_at s.plan t j ≡ Some (Makes (length s.plan.makers)) =
                  sym (own_at s.plan plan_made t a.sound.checked grows_make make_tables j before) ∙ e in
                  let within = phaser_within s.plan t (length s.plan.makers) (a.sound.checked.codes.well_formed t j (Makes (length s.plan.makers)) was).0 in
                  absurd (omega arith),
            );
        makes =
            λ i q e. one_new (Makes (length s.plan.makers)) (λ i x. (q : ℕ) → x ≡ Makes q → (i ≡ 0) × (length s.plan.makers ≤ q))
            (λ q g. (refl, (let same : length s.plan.makers ≡ q = cc in omega arith))) i (Makes q) e q refl;
        made =
            λ p l within. let same : p ≡ length s.plan.makers = omega (arith, length-append s.plan.makers (task t ∷ [])) in
            (ap (maker_of plan_made) same ∙ make_maker, ap (λ v. Some (Makes v)) (sym same));
        drawn = λ c l within. absurd (omega arith);
      }
    where
      make_tables : HasTables plan_made
      make_tables = op_tables (with_maker t s.plan) t make (maker_tables s.plan t a.sound.at.makers a.sound.checked.tables)

  pub make_acts :
      (n : ℕ) (names : Names) → nat_lt (length s.plan.makers) max_phasers ≡ true → has_cells (length s.plan.parents) (length s.plan.makers + 1) ≡ true →
      OnState (IsActing t) (add_op t n make (state_of (with_maker t s.plan) s.starts (with_member t (length s.plan.makers) true s.members) names s.visits))
  unfolding add_op
  make_acts n names room cells =
      on_fault_unless (IsActing t) (nat_lt (sum_by length s.plan.codes) max_ops) too_many_ops n _
      (λ few. acts_on t s (state_of plan_made s.starts (with_member t (length s.plan.makers) true s.members) names s.visits) a grows_make
      (op_tables (with_maker t s.plan) t make (maker_tables s.plan t a.sound.at.makers a.sound.checked.tables)) make_new
      (record {
        few_tasks = a.sound.checked.limits.few_tasks;
        few_phasers = omega (arith, length-append s.plan.makers (task t ∷ []), ltb-true (length s.plan.makers) max_phasers room);
        few_ops = omega (arith, one_more_op (with_maker t s.plan) t make has_code, ltb-true (sum_by length s.plan.codes) max_ops few);
        few_cells =
            subst (λ m. length s.plan.parents * (m + 1) ≤ max_cells) (sym (length-append s.plan.makers (task t ∷ [])))
            (leb-true (length s.plan.parents * (length s.plan.makers + 1 + 1)) max_cells cells);
      })
      make_at
      (record {
        many = a.sound.starts;
        stay = λ c e. e;
        begins = λ c e. inl e;
        forks = λ i c e. absurd (one_new (Makes (length s.plan.makers)) (λ i x. (c : ℕ) → x ≢ Forks c) (λ c g. cc) i (Forks c) e c refl);
        near = a.sound.near;
      })
      (record {
        own = set_member t (length s.plan.makers) true s.members (last_phases s.plan t) (Some 0) members_own refl;
        child =
            λ u p l within child. member_other t (length s.plan.makers) true s.members u p (λ e. absurd (omega arith))
            ∙ a.sound.members u p (omega arith) within
            ∙ ap (λ m. is_some (m p)) (idle_phases s.plan u (a.sound.at.later u l));
        others = λ u p l within stranger. member_other t (length s.plan.makers) true s.members u p (λ e. absurd (omega arith));
        outside = λ u p l. member_other t (length s.plan.makers) true s.members u p (λ e. absurd (let h = a.here in omega arith)) ∙ a.sound.outside u p l;
        drawn = λ u p l within. absurd (omega arith);
      }))

  -- ---- a task more

  abbrev grows_task : Grows s.plan (with_task t s.plan) t
  grows_task =
      record {
        here = a.here;
        parents = (Some (task t) ∷ [], refl);
        makers = ([], sym (append-nil s.plan.makers));
        own = ([], task_actions s.plan t t ∙ sym (append-nil (actions s.plan t)));
        others = λ u n. task_actions s.plan t u;
        later = a.sound.at.later;
      }

  task_at : IsAt t (with_task t s.plan)
  unfolding maker_of
  task_at =
      record {
        later = λ u l. task_actions s.plan t u ∙ a.sound.at.later u l;
        parents = parents_at_most s.plan t a.sound.at.parents;
        makers = a.sound.at.makers;
      }

  task_last : (c : ℕ) → length s.plan.parents ≤ c → c < length (with_task t s.plan).parents → c ≡ length s.plan.parents
  task_last c l within = omega (arith, length-append s.plan.parents (Some (task t) ∷ []))

  task_first : (u p : ℕ) → length s.plan.parents ≤ u → u < length (with_task t s.plan).parents → first_phases (with_task t s.plan) u p ≡ None
  task_first u p l within =
      let parent : parent_of (with_task t s.plan) u ≡ t = ap (parent_of (with_task t s.plan)) (task_last u l within) ∙ parent_new s.plan t in
      ap (λ m. m p)
      (first_new s.plan (with_task t s.plan) t a.sound.checked grows_task (task_tables s.plan t a.here a.sound.at.parents a.sound.checked.tables) u
      (let h = a.here in omega arith) parent)
      ∙ nobody_registers s.plan a.sound.checked t u (length (actions s.plan t)) l p

  pub task_acts : (names : Names) → nat_lt (length s.plan.parents) max_tasks ≡ true → has_cells (length s.plan.parents + 1) (length s.plan.makers) ≡ true →
      IsActing t (state_of (with_task t s.plan) (s.starts ++ None ∷ []) s.members names s.visits)
  task_acts names room cells =
      acts_on t s (state_of (with_task t s.plan) (s.starts ++ None ∷ []) s.members names s.visits) a grows_task
      (task_tables s.plan t a.here a.sound.at.parents a.sound.checked.tables)
      (record {
        well_formed = λ i x e. absurd cc;
        makes = λ i q e. absurd cc;
        made = λ p l within. absurd (omega arith);
        drawn = λ c l within. ap (parent_of (with_task t s.plan)) (task_last c l within) ∙ parent_new s.plan t;
      })
      (record {
        few_tasks = omega (arith, length-append s.plan.parents (Some (task t) ∷ []), ltb-true (length s.plan.parents) max_tasks room);
        few_phasers = a.sound.checked.limits.few_phasers;
        few_ops = omega (arith, sum_by-append length s.plan.codes ([] ∷ []), a.sound.checked.limits.few_ops);
        few_cells =
            subst (λ m. m * (length s.plan.makers + 1) ≤ max_cells) (sym (length-append s.plan.parents (Some (task t) ∷ [])))
            (leb-true ((length s.plan.parents + 1) * (length s.plan.makers + 1)) max_cells cells);
      })
      task_at
      (record {
        many = omega (arith, length-append s.starts (None ∷ []), length-append s.plan.parents (Some (task t) ∷ []), a.sound.starts);
        stay = λ c e. ap is_some (at_more s.starts None c) ∙ e;
        begins = λ c e. inl (ap is_some (sym (at_more s.starts None c)) ∙ e);
        forks = λ i c e. absurd cc;
        near = λ c. subst NearStart (sym (at_more s.starts None c)) (a.sound.near c);
      })
      (record {
        own = members_own;
        child = λ u p l within child. a.sound.members u p (omega arith) within ∙ ap (λ m. is_some (m p)) (idle_phases s.plan u (a.sound.at.later u l));
        others = λ u p l within stranger. refl;
        outside = a.sound.outside;
        drawn = task_first;
      })

  -- ---- statements and visits

  act_keeps : (n : ℕ) (x : Plain) → PlainIsNear x → OnState (IsActing t) (act t n x s)
  unfolding act
  act_keeps n (new_task x) near =
      on_fault_unless (IsActing t) (nat_lt (length s.plan.parents) max_tasks) too_many_tasks n _
      (λ room. on_fault_unless (IsActing t) (has_cells (length s.plan.parents + 1) (length s.plan.makers)) too_many_cells n _
      (λ cells. task_acts (assigned x (a_task (length s.plan.parents)) s.names) room cells))
  act_keeps n (new_phaser x) near =
      on_fault_unless (IsActing t) (nat_lt (length s.plan.makers) max_phasers) too_many_phasers n _
      (λ room. on_fault_unless (IsActing t) (has_cells (length s.plan.parents) (length s.plan.makers + 1)) too_many_cells n _
      (λ cells. make_acts n (assigned x (a_phaser (length s.plan.makers)) s.names) room cells))
  act_keeps n (reg x y) near =
      on_task (IsActing t) n (s.names x) _
      (λ c. on_phaser (IsActing t) n (s.names y) _
      (λ p. on_unforked_child (IsActing t) t n c s _
      (λ mine unforked. by c p mine unforked (s.members t p) (s.members c p) refl refl)))
    where
      by :
          (c p : ℕ) → is_parent t (slice_index_or s.plan.parents c None) ≡ true → is_begun s c ≡ false → (b d : Bool) → s.members t p ≡ b → s.members c p ≡ d →
          OnState (IsActing t) (fault_unless b not_member n >>= λ _.
          (fault_unless (not d) already_member n >>= λ _. add_op t n (op.Reg (task c) (phaser p)) (record s { members = with_member c p true s.members })))
      by c p mine unforked false d e f = tt
      by c p mine unforked true true e f = tt
      by c p mine unforked true false e f = reg_acts c mine unforked p e f n
  act_keeps n (dereg x) near = on_member (IsActing t) t n (s.names x) s _ (λ p e. dereg_acts p n e)
  act_keeps n (adv x) near = on_member (IsActing t) t n (s.names x) s _ (λ p e. adv_acts p n e)
  act_keeps n (await x off) near = on_member (IsActing t) t n (s.names x) s _ (λ p e. await_acts p n off near e)
  act_keeps n skip near = a

  fork_keeps : (n : ℕ) (x : List ℕ) (body : Tree) → AreNear body → OnState (IsActing t) (act_fork t n x body s)
  unfolding act_fork
  fork_keeps n x body near =
      on_task (IsActing t) n (s.names x) _
      (λ c. on_unforked_child (IsActing t) t n c s _ (λ mine unforked. fork_acts c mine unforked n (record { body = body; first = n + 1; names = s.names }) near))

  pub come_keeps : (n : ℕ) (c : Coming) → IsNearComing c → OnState (IsActing t) (come_to t n c s)
  come_keeps n (a_plain x) near = act_keeps n x near
  come_keeps n (a_fork x body) near = fork_keeps n x body near
  come_keeps n a_loop near = a
  come_keeps n a_turn near = a

  pub leave_keeps : (n p : ℕ) → OnState (IsActing t) (leave t n p s)
  unfolding leave
  leave_keeps n p = by (s.members t p) refl
    where
      by : (b : Bool) → s.members t p ≡ b → OnState (IsActing t) (if b then add_op t n (op.Drop (phaser p)) (with_members (with_member t p false s.members) s) else Ok s)
      by true e = dereg_acts p n e
      by false e = a

-- neither the names nor the number of visits matter
pub same_acts : (t : ℕ) (s : UnfoldingState) (names : Names) (visits : ℕ) → IsActing t s → IsActing t (record s { names = names; visits = visits })
same_acts t s names visits a =
    record {
      sound =
          record {
            checked = a.sound.checked;
            at = a.sound.at;
            starts = a.sound.starts;
            forked = a.sound.forked;
            unforked = a.sound.unforked;
            members = a.sound.members;
            outside = a.sound.outside;
            near = a.sound.near;
          };
      here = a.here;
      begun = a.begun;
    }

on_then : (P Q : UnfoldingState → Type 0) (o : Outcome UnfoldingState) (f : UnfoldingState → Outcome UnfoldingState) → OnState P o →
    ((s : UnfoldingState) → P s → OnState Q (f s)) → OnState Q (o >>= f)
on_then P Q (Ok s) f h k = k s h
on_then P Q (Err e) f h k = tt

count_visit_keeps : (t n : ℕ) (s : UnfoldingState) → IsActing t s → OnState (IsActing t) (count_visit n s)
unfolding count_visit
count_visit_keeps t n s a = on_fault_unless (IsActing t) (nat_lt s.visits max_visits) too_many_visits n _ (λ room. same_acts t s s.names (s.visits + 1) a)

pub comes_keep : (t : ℕ) (ms : List Visit) (s : UnfoldingState) → AreNearVisits ms → IsActing t s → OnState (IsActing t) (make_visits t ms s)
unfolding make_visits
comes_keep t [] s near a = a
comes_keep t (m ∷ ms) s near a =
    on_then (IsActing t) (IsActing t) (make_visit t m s) (make_visits t ms)
    (on_then (IsActing t) (IsActing t) (count_visit m.statement s) (come_to t m.statement m.coming) (count_visit_keeps t m.statement s a)
    (λ s' a'. come_keeps t s' a' m.statement m.coming near.0))
    (λ s' a'. comes_keep t ms s' near.1 a')

leaves_keep : (t n p : ℕ) (s : UnfoldingState) → IsActing t s → OnState (IsActing t) (leave_below t n p s)
unfolding leave_below
leaves_keep t n zero s a = a
leaves_keep t n (suc p) s a = on_then (IsActing t) (IsActing t) (leave_below t n p s) (leave t n p) (leaves_keep t n p s a) (λ s' a'. leave_keeps t s' a' n p)

-- and so does the end of a task
pub end_keeps : (two : Bool) (t n : ℕ) (o : Outcome UnfoldingState) → OnState (IsActing t) o → OnState (IsActing t) (ended two t n o)
end_keeps false t n o a = a
end_keeps true t n o a = on_then (IsActing t) (IsActing t) o (leave_below t n max_phasers) a (λ s' a'. leaves_keep t n max_phasers s' a')
