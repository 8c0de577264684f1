-- The plan of the two tasks is a checked plan.
use Rattle.std.proofs.Common.{◌≡◌, ℕ, zero, suc, ◌<◌, ◌≤◌, Option, Some, None, arith, refl, subst}
use Rattle.armus_base.specs.declared.ids.TaskId.{TaskId}
use Rattle.armus_base.specs.Plans.{Action, Forks, Makes, Registers, action_at, actions, maker_of, parent_of}
use Rattle.armus_base.specs.Places.{first_phases, phases_after}
use Rattle.armus_base.specs.CheckedPlans.{HasFork, IsCheckedPlan, IsWellFormed, NotBefore}
use Rattle.armus_base.specs.calls.TwoTasks.{two_tasks}
use Rattle.std.specs.Prelude.{slice_get}

make_first : NotBefore two_tasks 0 0 (Makes 0)
unfolding parent_of maker_of actions action_at
make_first j l e = absurd (omega arith)

make_second : NotBefore two_tasks 0 1 (Makes 1)
unfolding parent_of maker_of actions action_at
make_second zero l e = absurd (cc)
make_second (suc j) l e = absurd (omega arith)

register_first_unforked : NotBefore two_tasks 0 2 (Forks 1)
unfolding parent_of maker_of actions action_at
register_first_unforked zero l e = absurd (cc)
register_first_unforked (suc zero) l e = absurd (cc)
register_first_unforked (suc (suc j)) l e = absurd (omega arith)

register_first : NotBefore two_tasks 0 2 (Registers 1 0)
unfolding parent_of maker_of actions action_at
register_first zero l e = absurd (cc)
register_first (suc zero) l e = absurd (cc)
register_first (suc (suc j)) l e = absurd (omega arith)

register_second_unforked : NotBefore two_tasks 0 3 (Forks 1)
unfolding parent_of maker_of actions action_at
register_second_unforked zero l e = absurd (cc)
register_second_unforked (suc zero) l e = absurd (cc)
register_second_unforked (suc (suc zero)) l e = absurd (cc)
register_second_unforked (suc (suc (suc j))) l e = absurd (omega arith)

register_second : NotBefore two_tasks 0 3 (Registers 1 1)
unfolding parent_of maker_of actions action_at
register_second zero l e = absurd (cc)
register_second (suc zero) l e = absurd (cc)
register_second (suc (suc zero)) l e = absurd (cc)
register_second (suc (suc (suc j))) l e = absurd (omega arith)

fork_once : NotBefore two_tasks 0 4 (Forks 1)
unfolding parent_of maker_of actions action_at
fork_once zero l e = absurd (cc)
fork_once (suc zero) l e = absurd (cc)
fork_once (suc (suc zero)) l e = absurd (cc)
fork_once (suc (suc (suc zero))) l e = absurd (cc)
fork_once (suc (suc (suc (suc j)))) l e = absurd (omega arith)

abbrev IsFine : ℕ → ℕ → Option Action → Type 0
IsFine t k None = Unit {0}
IsFine t k (Some x) = IsWellFormed two_tasks t k x

fine : (t k : ℕ) → IsFine t k (action_at two_tasks t k)
unfolding parent_of maker_of actions action_at first_phases phases_after
fine zero zero = ((record { 0 = 0 }, refl, refl), make_first)
fine zero (suc zero) = ((record { 0 = 0 }, refl, refl), make_second)
fine zero (suc (suc zero)) = ((record { 0 = 0 }, refl, refl), register_first_unforked, register_first, (0, refl))
fine zero (suc (suc (suc zero))) = ((record { 0 = 0 }, refl, refl), register_second_unforked, register_second, (0, refl))
fine zero (suc (suc (suc (suc zero)))) = ((record { 0 = 0 }, refl, refl), fork_once)
fine zero (suc (suc (suc (suc (suc zero))))) = (0, refl)
fine zero (suc (suc (suc (suc (suc (suc zero)))))) = ((1, refl), tt)
fine zero (suc (suc (suc (suc (suc (suc (suc zero))))))) = tt
fine zero (suc (suc (suc (suc (suc (suc (suc (suc k)))))))) = tt
fine (suc zero) zero = (0, refl)
fine (suc zero) (suc zero) = ((1, refl), tt)
fine (suc zero) (suc (suc zero)) = tt
fine (suc zero) (suc (suc (suc k))) = tt
fine (suc (suc t)) k = tt

drawn_by_first : (t : ℕ) → 0 < t → t < 2 → (u : TaskId) × slice_get two_tasks.parents t ≡ Some (Some u)
drawn_by_first zero pos l = absurd (omega arith)
drawn_by_first (suc zero) pos l = (record { 0 = 0 }, refl)
drawn_by_first (suc (suc t)) pos l = absurd (omega arith)

first_before : (t : ℕ) → 0 < t → parent_of two_tasks t < t
unfolding parent_of
first_before zero pos = absurd (omega arith)
first_before (suc zero) pos = omega arith
first_before (suc (suc t)) pos = omega arith

never_fall : (t u : ℕ) → 0 < t → t ≤ u → u < 2 → parent_of two_tasks t ≤ parent_of two_tasks u
unfolding parent_of
never_fall zero u pos l m = absurd (omega arith)
never_fall (suc zero) u pos l m = omega arith
never_fall (suc (suc t)) u pos l m = absurd (omega arith)

makers_never_fall : (p q : ℕ) → p ≤ q → q < 2 → maker_of two_tasks p ≤ maker_of two_tasks q
unfolding maker_of
makers_never_fall zero q l m = omega arith
makers_never_fall (suc zero) q l m = omega arith
makers_never_fall (suc (suc p)) q l m = absurd (omega arith)

both_made : (p : ℕ) → p < 2 → (k : ℕ) × action_at two_tasks (maker_of two_tasks p) k ≡ Some (Makes p)
unfolding maker_of actions action_at
both_made zero l = (0, refl)
both_made (suc zero) l = (1, refl)
both_made (suc (suc p)) l = absurd (omega arith)

abbrev IsNoMake : Option Action → Type 0
IsNoMake (Some (Makes p)) = ⊥
IsNoMake o = Unit {0}

no_more_makes : (k : ℕ) → IsNoMake (action_at two_tasks 0 (suc (suc k)))
unfolding actions action_at
no_more_makes zero = tt
no_more_makes (suc zero) = tt
no_more_makes (suc (suc zero)) = tt
no_more_makes (suc (suc (suc zero))) = tt
no_more_makes (suc (suc (suc (suc zero)))) = tt
no_more_makes (suc (suc (suc (suc (suc zero))))) = tt
no_more_makes (suc (suc (suc (suc (suc (suc k)))))) = tt

no_makes : (t k : ℕ) → IsNoMake (action_at two_tasks (suc t) k)
unfolding actions action_at
no_makes zero zero = tt
no_makes zero (suc zero) = tt
no_makes zero (suc (suc zero)) = tt
no_makes zero (suc (suc (suc k))) = tt
no_makes (suc t) k = tt

in_order :
    (t j k p q : ℕ) → j < k → action_at two_tasks t j ≡ Some (Makes p) → action_at two_tasks t k ≡ Some (Makes q) → p < q
unfolding actions action_at
in_order (suc t) j k p q l e f = absurd (subst IsNoMake f (no_makes t k))
in_order zero j zero p q l e f = absurd (omega arith)
in_order zero zero (suc zero) p q l e f = (let first : 0 ≡ p = (cc) in let second : 1 ≡ q = (cc) in omega arith)
in_order zero (suc j) (suc zero) p q l e f = absurd (omega arith)
in_order zero j (suc (suc k)) p q l e f = absurd (subst IsNoMake f (no_more_makes k))

second_is_forked : (t k : ℕ) (x : Action) → 0 < t → action_at two_tasks t k ≡ Some x → HasFork two_tasks t
unfolding parent_of actions action_at
second_is_forked zero k x pos e = absurd (omega arith)
second_is_forked (suc zero) k x pos e = (4, refl)
second_is_forked (suc (suc t)) k x pos e = absurd (cc)

first_draws : (c : ℕ) → 0 < c → c < 2 → 0 < parent_of two_tasks c → HasFork two_tasks (parent_of two_tasks c)
unfolding parent_of
first_draws zero pos l d = absurd (omega arith)
first_draws (suc zero) pos l d = absurd (omega arith)
first_draws (suc (suc c)) pos l d = absurd (omega arith)

pub two_tasks_checked : IsCheckedPlan two_tasks
two_tasks_checked =
    record {
      tables =
          record {
            root = refl;
            drawn = drawn_by_first;
            parents_first = first_before;
            parents_rise = never_fall;
            makers_rise = makers_never_fall;
            one_code_each = refl;
          };
      codes =
          record {
            well_formed = λ t k x e. subst (IsFine t k) e (fine t k);
            made = both_made;
            makes_rise = in_order;
            works = second_is_forked;
            draws = first_draws;
          };
      limits = record { few_tasks = omega arith; few_phasers = omega arith; few_ops = omega arith; few_cells = omega arith };
    }
