-- What is noted of a visit fits it.
use Rattle.std.proofs.Common.{◌≡◌, ℕ, ◌<◌, Bool, true, false, List, length, Option, ◌∙◌, ap, refl}
use Rattle.std.specs.Prelude.{◌&&◌, ◌==◌}
use Rattle.armus_base.specs.declared.ids.TaskId.{TaskId}
use Rattle.pl_plan.specs.Stages.{comes}
use Rattle.pl_plan.specs.Tests.{phaser_number, task_number}
use Rattle.pl_plan.specs.Unfolding.{UnfoldingState, Visit}
use Rattle.pl_plan.specs.declared.step.NameId.{NameId}
use Rattle.pl_plan.specs.declared.step.Thing as code
use Rattle.pl_plan.specs.declared.step.Thing.TheVariants as a_thing
use Rattle.pl_plan.specs.inside.Checker.{Checker, thing_at}
use Rattle.pl_plan.specs.inside.CheckerSteps.{thing_of}
use Rattle.pl_plan.specs.inside.Shows.{ShowsState}
use Rattle.explain_check.specs.Deeds as deeds
use Rattle.explain_check.specs.declared.frames.Item.{Item}
use Rattle.explain_check.specs.declared.notes.Deed.{Deed}
use Rattle.explain_check.specs.inside.Framed.{Comes, to_adv, to_await, to_dereg, to_fork, to_loop, to_new_phaser, to_new_task, to_reg, to_skip, to_turn}
use Rattle.explain_check.specs.inside.Noted.{MeansDeed, means_drew, means_forked, means_left, means_made, means_registered, notes_at, phaser_in, task_in}
use Rattle.explain_check.specs.inside.Seen.{sight_of}
use Rattle.explain_check.proofs.Last.{NotesFit}

and_true : (b : Bool) → b ≡ b && true
and_true true = refl
and_true false = refl

pub task_same : (v : code.Thing) → task_number (thing_of v) ≡ task_in v
task_same a_thing.Nothing = refl
task_same (a_thing.Task c) = refl
task_same (a_thing.Phaser p) = refl

pub phaser_same : (v : code.Thing) → phaser_number (thing_of v) ≡ phaser_in v
phaser_same a_thing.Nothing = refl
phaser_same (a_thing.Task c) = refl
phaser_same (a_thing.Phaser p) = refl

module _ (names : ℕ → List ℕ) (k : Checker) (s : UnfoldingState) (h : ShowsState names k s) (t : TaskId) where
  pub task_named : (x : NameId) → x.0 < length k.bindings.slots → task_number (s.names (names x.0)) ≡ task_in (thing_at k x.0)
  task_named x l = ap task_number (h.named x.0 l) ∙ task_same (thing_at k x.0)

  pub phaser_named : (x : NameId) → x.0 < length k.bindings.slots → phaser_number (s.names (names x.0)) ≡ phaser_in (thing_at k x.0)
  phaser_named x l = ap phaser_number (h.named x.0 l) ∙ phaser_same (thing_at k x.0)

  pub notes_fit :
      (item : Item) (m : Visit) → Comes (length k.bindings.slots) names k.steps item m → (d : Deed) (did : deeds.Deed) → MeansDeed d did →
      NotesFit names s (comes t.0 m) (notes_at (sight_of k t item) item.step) d did
  notes_fit i m (to_new_task x l) d did (means_drew {c}) =
      (refl, ap (λ (ps : List (Option TaskId)). length ps == c) h.plan.parents ∙ and_true (length k.parents == c), refl, refl)
  notes_fit i m (to_new_task x l) d did means_made = (refl, refl, refl, refl)
  notes_fit i m (to_new_task x l) d did means_forked = (refl, refl, refl, refl)
  notes_fit i m (to_new_task x l) d did means_registered = (refl, refl, refl, refl)
  notes_fit i m (to_new_task x l) d did means_left = (refl, refl, refl, refl)
  notes_fit i m (to_new_phaser x l) d did means_drew = (refl, refl, refl, refl)
  notes_fit i m (to_new_phaser x l) d did (means_made {p}) =
      (refl, ap (λ (ps : List TaskId). length ps == p) h.plan.makers ∙ and_true (length k.makers == p), refl, refl)
  notes_fit i m (to_new_phaser x l) d did means_forked = (refl, refl, refl, refl)
  notes_fit i m (to_new_phaser x l) d did means_registered = (refl, refl, refl, refl)
  notes_fit i m (to_new_phaser x l) d did means_left = (refl, refl, refl, refl)
  notes_fit i m (to_fork x after body l within spelled) d did means_drew = (refl, refl, refl, refl)
  notes_fit i m (to_fork x after body l within spelled) d did means_made = (refl, refl, refl, refl)
  notes_fit i m (to_fork x after body l within spelled) d did (means_forked {c}) =
      (refl, ap (λ n. n == c) (task_named x l) ∙ and_true (task_in (thing_at k x.0) == c), refl, refl)
  notes_fit i m (to_fork x after body l within spelled) d did means_registered = (refl, refl, refl, refl)
  notes_fit i m (to_fork x after body l within spelled) d did means_left = (refl, refl, refl, refl)
  notes_fit i m (to_reg x y l r) d did means_drew = (refl, refl, refl, refl)
  notes_fit i m (to_reg x y l r) d did means_made = (refl, refl, refl, refl)
  notes_fit i m (to_reg x y l r) d did means_forked = (refl, refl, refl, refl)
  notes_fit i m (to_reg x y l r) d did (means_registered {c} {p}) = (
    refl,
    ap (λ n. (n == c) && (phaser_number (s.names (names y.0)) == p)) (task_named x l) ∙ ap (λ n. (task_in (thing_at k x.0) == c) && (n == p)) (phaser_named y r),
    refl,
    refl,
  )
  notes_fit i m (to_reg x y l r) d did means_left = (refl, refl, refl, refl)
  notes_fit i m (to_dereg x l) d did means_drew = (refl, refl, refl, refl)
  notes_fit i m (to_dereg x l) d did means_made = (refl, refl, refl, refl)
  notes_fit i m (to_dereg x l) d did means_forked = (refl, refl, refl, refl)
  notes_fit i m (to_dereg x l) d did means_registered = (refl, refl, refl, refl)
  notes_fit i m (to_dereg x l) d did (means_left {u} {p}) = (refl, ap (λ n. (t.0 == u) && (n == p)) (phaser_named x l), refl, refl)
  notes_fit i m (to_adv x l) d did means_drew = refl
  notes_fit i m (to_adv x l) d did means_made = refl
  notes_fit i m (to_adv x l) d did means_forked = refl
  notes_fit i m (to_adv x l) d did means_registered = refl
  notes_fit i m (to_adv x l) d did means_left = refl
  notes_fit i m (to_await x off l near) d did means_drew = refl
  notes_fit i m (to_await x off l near) d did means_made = refl
  notes_fit i m (to_await x off l near) d did means_forked = refl
  notes_fit i m (to_await x off l near) d did means_registered = refl
  notes_fit i m (to_await x off l near) d did means_left = refl
  notes_fit i m to_skip d did means_drew = refl
  notes_fit i m to_skip d did means_made = refl
  notes_fit i m to_skip d did means_forked = refl
  notes_fit i m to_skip d did means_registered = refl
  notes_fit i m to_skip d did means_left = refl
  notes_fit i m (to_loop n after steady) d did means_drew = refl
  notes_fit i m (to_loop n after steady) d did means_made = refl
  notes_fit i m (to_loop n after steady) d did means_forked = refl
  notes_fit i m (to_loop n after steady) d did means_registered = refl
  notes_fit i m (to_loop n after steady) d did means_left = refl
  notes_fit i m to_turn d did means_drew = refl
  notes_fit i m to_turn d did means_made = refl
  notes_fit i m to_turn d did means_forked = refl
  notes_fit i m to_turn d did means_registered = refl
  notes_fit i m to_turn d did means_left = refl
