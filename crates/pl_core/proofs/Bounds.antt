-- Members are tasks and their phasers phasers of the plan, and phases fit the table.
use Rattle.std.proofs.Common.{◌≡◌, ℕ, ◌<◌, ◌≤◌, true, List, Some, None, length, arith, sym, ◌∙◌, ap}
use Rattle.armus_base.specs.Plans.{Forks, Plan, Makes, action_at, maker_of}
use Rattle.armus_base.specs.Limits.{max_ops}
use Rattle.armus_base.specs.Runs.{state_after}
use Rattle.armus_base.specs.Places.{done_by, kept, made_at, makes, phases_after, phases_at, state_at}
use Rattle.armus_base.specs.CheckedPlans.{IsCheckedPlan}
use Rattle.armus_base.proofs.Codes.{child_within, phaser_within}
use Rattle.armus_base.proofs.Fixed.{makes_is, phases_forked, some_before_is}
use Rattle.armus_base.proofs.Members.{member_made}
use Rattle.armus_base.proofs.PhasesFit.{phases_fit}
use Rattle.armus_base.proofs.Reachable.{reachable_is_fixed}
use Rattle.armus_base.proofs.Tasks.{member_within}
use Rattle.pl_core.specs.declared.task.TaskRecord.{TaskRecord}
use Rattle.pl_core.specs.declared.phase_table.MemberTable.{MemberTable}
use Rattle.pl_core.specs.inside.Kept.{KeepsState}
use Rattle.pl_core.specs.calls.Tables.{world_from}
use Rattle.pl_core.specs.calls.Worlds.{WorldValue, action_by_code, places_of, state_of}
use Rattle.armus_base.specs.Runs.{IsReachable, Place}

-- a phaser that is made is one of the plan
made_within : (plan : Plan) (a : ℕ → ℕ) (p : ℕ) → IsCheckedPlan plan → made_at plan a p ≡ true → p < length plan.makers
unfolding made_at
made_within plan a p checked made =
    let at = some_before_is (λ j. makes (action_at plan (maker_of plan p) j) p) (a (maker_of plan p)) made in
    phaser_within plan (maker_of plan p) p (checked.codes.well_formed (maker_of plan p) at.0 (Makes p) (makes_is (action_at plan (maker_of plan p) at.0) p at.2)).0

pub members_within :
    (plan : Plan) (a : ℕ → Place) → IsCheckedPlan plan → IsReachable plan a → (t p n : ℕ) → (state_at plan a).phases t p ≡ Some n →
    t < length plan.parents × p < length plan.makers
members_within plan a checked reach t p n e =
    let at = (reachable_is_fixed plan a checked reach).0 in
    let there : (state_after reach.steps).phases t p ≡ Some n = ap (λ s. s.phases t p) at ∙ e in
    let made = member_made plan reach.steps reach.run t p n there in (
      member_within plan checked reach.steps reach.run t p n there,
      made_within plan (done_by a) p checked (sym (ap (λ s. s.made p) at) ∙ made),
    )

pub task_of_member :
    (w : WorldValue) → IsCheckedPlan w.plan → IsReachable w.plan (places_of w) → (t p n : ℕ) → (state_of w).phases t p ≡ Some n → t < length w.plan.parents
unfolding state_of
task_of_member w checked reach t p n e = (members_within w.plan (places_of w) checked reach t p n e).0

pub phaser_of_member :
    (w : WorldValue) → IsCheckedPlan w.plan → IsReachable w.plan (places_of w) → (t p n : ℕ) → (state_of w).phases t p ≡ Some n → p < length w.plan.makers
unfolding state_of
phaser_of_member w checked reach t p n e = (members_within w.plan (places_of w) checked reach t p n e).1

-- the phase of a forked task that is not refused fits
pub phase_fits :
    (w : WorldValue) → IsCheckedPlan w.plan → (t p n : ℕ) → (state_of w).forked t ≡ true → (places_of w t).dropped ≡ None →
    (state_of w).phases t p ≡ Some n → n ≤ max_ops
unfolding state_of
phase_fits w checked t p n forked undropped e =
    let known : phases_after w.plan t (places_of w t).done p ≡ Some n =
    ap (λ m. m p) (sym (phases_forked w.plan checked (done_by (places_of w)) t forked))
    ∙ ap (λ o. kept o (phases_at w.plan (done_by (places_of w)) t) p) (sym undropped)
    ∙ e in
    let fits = phases_fit w.plan t (places_of w t).done p n checked known in
    let few = checked.limits.few_ops in
    omega arith

-- a child that is forked next is kept
pub child_bound :
    (plan : Plan) (tasks : List TaskRecord) (table : MemberTable) → KeepsState plan tasks table → (t c : ℕ) →
    action_by_code (world_from plan tasks) t ≡ Some (Forks c) → c < length tasks
child_bound plan tasks table kept t c next =
    let parent = (kept.checked.codes.well_formed t (places_of (world_from plan tasks) t).done (Forks c) next).0 in
    let l = child_within plan t c parent in
    let e = kept.one_each in
    omega arith
