-- The plan to which a program unfolds is checked.
use Rattle.std.proofs.Common.{◌≡◌, ℕ, zero, suc, ◌+◌, ◌-◌, Bool, ◌<◌, ◌≤◌, true, false, Some, None, Ok, Err, Option, [], length, arith, sym, ◌∙◌, ap, subst, refl, inl, inr}
use Rattle.std.specs.Prelude.{slice_get, slice_index_or, is_some}
use Rattle.std.proofs.lemmas.Bool.{cases_lt, false≢true}
use Rattle.std.proofs.lemmas.List.{get_or_past}
use Rattle.armus_base.specs.Limits.{max_tasks}
use Rattle.armus_base.specs.Plans.{Plan, action_at, actions, parent_of, maker_of}
use Rattle.armus_base.specs.Places.{first_phases, phases_after}
use Rattle.armus_base.specs.CheckedPlans.{IsCheckedPlan}
use Rattle.armus_base.specs.calls.CheckedPlans.{first_plan}
use Rattle.armus_base.proofs.CheckedByCodes.{checked_by_codes}
use Rattle.armus_base.proofs.PlanGrows.{first_plan_is_checked}
use Rattle.pl_syntax.specs.declared.tree.Program.{Program}
use Rattle.pl_syntax.specs.Tree.{Tree}
use Rattle.pl_syntax.specs.calls.Tree.{AreNear}
use Rattle.pl_plan.specs.Unfolding.{UnfoldingState, Start, Outcome, ◌>>=◌, unfold_task, unfold_tasks, opening_state, plan_of, visits_of, with_names, with_pieces, make_visits}
use Rattle.pl_plan.specs.calls.Laws.{UnfoldedIsChecked}
use Rattle.pl_plan.proofs.Growth.{last_phases}
use Rattle.pl_plan.proofs.Sound.{IsSound, IsActing, is_begun, NearStart}
use Rattle.pl_plan.proofs.SoundSteps.{OnState, same_acts, comes_keep, end_keeps, visits_near}

-- the next task
pub next_sound : (t : ℕ) (s : UnfoldingState) → IsSound t s → IsSound (t + 1) s
next_sound t s h =
    record {
      checked = h.checked;
      at =
          record {
            later = λ u l. h.at.later u (omega arith);
            parents = λ c. omega (arith, h.at.parents c);
            makers = λ p. omega (arith, h.at.makers p);
          };
      starts = h.starts;
      forked = h.forked;
      unforked = h.unforked;
      members = λ u p le l. h.members u p (omega arith) l;
      outside = h.outside;
      near = h.near;
    }

-- a state that is sound at some task
abbrev pub SoundSomewhere : UnfoldingState → Type 0
SoundSomewhere s = (t : ℕ) × IsSound t s

on_more : (t : ℕ) (o : Outcome UnfoldingState) (f : UnfoldingState → Outcome UnfoldingState) → OnState (IsActing t) o →
    ((s : UnfoldingState) → IsSound (t + 1) s → OnState SoundSomewhere (f s)) → OnState SoundSomewhere (o >>= f)
on_more t (Ok s) f h k = k s (next_sound t s h.sound)
on_more t (Err e) f h k = tt

begun_inside : (t : ℕ) (s : UnfoldingState) → IsSound t s → is_begun s t ≡ true → t < length s.plan.parents
begun_inside t s h e =
    elim (cases_lt t (length s.starts)) [
      | inl l ↦ omega (arith, h.starts)
      | inr l ↦ absurd (false≢true (sym (ap is_some (get_or_past s.starts t None l)) ∙ e))
    ]

task_keeps :
    (two : Bool) (t : ℕ) (s : UnfoldingState) (rest : UnfoldingState → Outcome UnfoldingState) → IsSound t s →
    ((s' : UnfoldingState) → IsSound (t + 1) s' → OnState SoundSomewhere (rest s')) → (o : Option Start) → slice_index_or s.starts t None ≡ o →
    OnState SoundSomewhere (unfold_task two t o s >>= rest)
task_keeps two t s rest h then None e = then s (next_sound t s h)
task_keeps two t s rest h then (Some start) e =
    let begun : is_begun s t ≡ true = ap is_some e in
    on_more t (unfold_task two t (Some start) s) rest
    (end_keeps two t (start.first - 1) (make_visits t (visits_of start.first start.body) (with_names start.names s))
    (comes_keep t (visits_of start.first start.body) (with_names start.names s) (visits_near start.first start.body (subst NearStart e (h.near t)))
    (same_acts t s start.names s.visits (record { sound = h; here = begun_inside t s h begun; begun = begun }))))
    then

tasks_keep : (two : Bool) (n t : ℕ) (s : UnfoldingState) → IsSound t s → OnState SoundSomewhere (unfold_tasks two n t s)
unfolding unfold_tasks
tasks_keep two zero t s h = (t, h)
tasks_keep two (suc n) t s h = task_keeps two t s (unfold_tasks two n (t + 1)) h (tasks_keep two n (t + 1)) (slice_index_or s.starts t None) refl

no_first_actions : (t : ℕ) → actions first_plan t ≡ []
unfolding actions
no_first_actions zero = refl
no_first_actions (suc t) = refl

no_first_action : (t j : ℕ) → action_at first_plan t j ≡ None
unfolding action_at
no_first_action t j = ap (λ xs. slice_get xs j) (no_first_actions t)

first_parent : (c : ℕ) → parent_of first_plan c ≡ 0
unfolding parent_of
first_parent zero = refl
first_parent (suc c) = refl

first_maker : (p : ℕ) → maker_of first_plan p ≡ 0
unfolding maker_of
first_maker p = refl

first_members : (u p : ℕ) → 0 ≤ u → u < 1 → false ≡ is_some (last_phases first_plan u p)
unfolding phases_after first_phases actions
first_members zero p le l = refl
first_members (suc u) p le l = absurd (omega arith)

first_starts : (program : Tree) (c : ℕ) → 0 < c → is_begun (opening_state program) c ≡ false
first_starts program zero l = absurd (omega arith)
first_starts program (suc c) l = refl

pub sound_opening : (program : Tree) → AreNear program → IsSound 0 (opening_state program)
sound_opening program near =
    record {
      checked = first_plan_is_checked;
      at =
          record {
            later = λ u l. no_first_actions u;
            parents = λ c. omega (arith, first_parent c);
            makers = λ p. omega (arith, first_maker p);
          };
      starts = refl;
      forked = λ c pos e. absurd (false≢true (sym (first_starts program c pos) ∙ e));
      unforked = λ c j e f. absurd (let none = no_first_action (parent_of first_plan c) j in cc);
      members = first_members;
      outside = λ u p l. refl;
      near = near_first;
    }
  where
    near_first : (c : ℕ) → NearStart (slice_index_or (opening_state program).starts c None)
    near_first zero = near
    near_first (suc c) = tt

plan_is : (o : Outcome UnfoldingState) (plan : Plan) → OnState SoundSomewhere o → (o >>= λ s. Ok (with_pieces s)) ≡ Ok plan → IsCheckedPlan plan
plan_is (Ok s) plan h e = subst IsCheckedPlan (let q : with_pieces s ≡ plan = cc in q) (checked_by_codes s.plan (with_pieces s).pieces h.1.checked)
plan_is (Err f) plan h e = absurd cc

-- the state at the end is sound
pub sound_at_end : (program : Program) → AreNear program.body → OnState SoundSomewhere (unfold_tasks program.two max_tasks 0 (opening_state program.body))
sound_at_end program near = tasks_keep program.two max_tasks 0 (opening_state program.body) (sound_opening program.body near)

pub unfolded_is_checked : UnfoldedIsChecked
unfolding plan_of
unfolded_is_checked program plan near e =
    plan_is (unfold_tasks program.two max_tasks 0 (opening_state program.body)) plan (sound_at_end program near) e
