-- What the definitions exclude.
use Rattle.std.specs.Prelude.{◌≡◌, ℕ, Bool, true, false, List, [], ◌∷◌, Some, None}
use Rattle.armus_base.specs.declared.offset.Offset.TheVariants.{Here}
use Rattle.armus_base.specs.declared.op.Op.TheVariants.{Make, Reg, Fork, Adv, Drop, Await}
use Rattle.armus_base.specs.Numbers.{phaser, task}
use Rattle.armus_base.specs.Plans.{Plan, Advances, Blocks, Drops, Makes, Registers, Passes, Refuses, straight_plan}
use Rattle.armus_base.specs.calls.Plans.{here}
use Rattle.armus_base.specs.declared.event.Event.{Event}
use Rattle.armus_base.specs.States.{State, IsLegal}
use Rattle.armus_base.specs.calls.Places.{phases_at_place}
use Rattle.armus_base.specs.CheckedPlans.{IsCheckedPlan}
use Rattle.armus_base.specs.Deadlocks.{IsDeadlockedSet, IsPublishedOn, IsAtPhase}
use Rattle.armus_base.specs.calls.Boards.{Entry, Does, Takes, Frees, steps_of, without_lock, IsBoardRun}
use Rattle.armus_base.specs.calls.Seats.{IsLongestPrefix}
use Rattle.armus_base.specs.calls.TwoTasks.{two_tasks, does, before_block, first_holds, second_stands, second_holds}

-- one phaser; task 1 advances on it, waits and drops it
abbrev pub steady : Plan
steady =
    straight_plan (None ∷ Some (record { 0 = 0 }) ∷ []) (record { 0 = 0 } ∷ [])
    ((Make (record { 0 = 0 }) ∷ Reg (record { 0 = 1 }) (record { 0 = 0 }) ∷ Fork (record { 0 = 1 }) ∷ [])
    ∷ (Adv (record { 0 = 0 }) ∷ Await (record { 0 = 0 }) Here ∷ Drop (record { 0 = 0 }) ∷ [])
    ∷ [])

-- one rule broken: task 0 makes its phasers in falling order
abbrev pub makes_fall : Plan
makes_fall =
    straight_plan (None ∷ []) (task 0 ∷ task 0 ∷ [])
    ((Make (phaser 1) ∷ Make (phaser 0) ∷ []) ∷ [])

-- one rule broken: nobody makes phaser 0
abbrev pub unmade_phaser : Plan
unmade_phaser = straight_plan (None ∷ []) (task 0 ∷ []) ([] ∷ [])

-- one rule broken: task 1 is never forked and has a code
abbrev pub unforked_works : Plan
unforked_works =
    straight_plan (None ∷ Some (task 0) ∷ []) (task 1 ∷ [])
    ([] ∷ (Make (phaser 0) ∷ []) ∷ [])

-- one rule broken: task 1 is never forked and draws task 2
abbrev pub unforked_draws : Plan
unforked_draws =
    straight_plan (None ∷ Some (task 0) ∷ Some (task 1) ∷ []) []
    ([] ∷ [] ∷ [] ∷ [])

-- one rule broken: task 2 is drawn by task 1, and task 3 by task 0
abbrev pub parents_fall : Plan
parents_fall =
    straight_plan (None ∷ Some (task 0) ∷ Some (task 1) ∷ Some (task 0) ∷ []) []
    ((Fork (task 1) ∷ []) ∷ [] ∷ [] ∷ [] ∷ [])

-- one rule broken: phaser 0 is made by task 1, and phaser 1 by task 0
abbrev pub makers_fall : Plan
makers_fall =
    straight_plan (None ∷ Some (task 0) ∷ []) (task 1 ∷ task 0 ∷ [])
    ((Fork (task 1) ∷ Make (phaser 1) ∷ []) ∷ (Make (phaser 0) ∷ []) ∷ [])

-- What the definitions exclude. A refusal of a task that would not be dead is made on no board; nobody registers a task or makes a phaser that the
-- plan does not have; the empty set is not deadlocked; a refused task passes nothing. And on a board that detects deadlock a load that finds task 1
-- of the steady plan no member any more tells that it has done all its code.
pub record Excludes : Type 0 where
  pub early_refusal :
      (avoids : Bool) (entries : List Entry) → steps_of entries ≡ does 0 (Refuses (here 0)) ∷ before_block → IsBoardRun avoids two_tasks entries → ⊥
  pub strange_child : (s : State) → IsLegal two_tasks s 0 (Registers 7 0) → ⊥
  pub strange_phaser : (s : State) → IsLegal two_tasks s 0 (Makes 77) → ⊥
  pub empty_set : (s : State) → IsDeadlockedSet (IsPublishedOn s) (IsAtPhase s) (λ _. false) → ⊥
  pub refused_pass : (plan : Plan) (s : State) (t p : ℕ) (e : Event) → s.refused t ≡ Some e → IsLegal plan s t (Passes p) → ⊥
  pub dropped_is_done :
      IsLongestPrefix false steady 1 (λ b. phases_at_place steady 1 b 0 ≡ None) (record { done = 1; dropped = None })
      (record { done = 4; dropped = None })

-- plans that are not checked: each breaks one rule, and keeps all others
pub record ExcludesPlans : Type 0 where
  pub makes : IsCheckedPlan makes_fall → ⊥
  pub unmade : IsCheckedPlan unmade_phaser → ⊥
  pub works : IsCheckedPlan unforked_works → ⊥
  pub draws : IsCheckedPlan unforked_draws → ⊥
  pub parents : IsCheckedPlan parents_fall → ⊥
  pub makers : IsCheckedPlan makers_fall → ⊥

-- What goes on from a run of a board that avoids deadlock and is none, by one rule of the lock each: a taking while the lock is held, a freeing by
-- another task, a block and a refusal without the lock, and a drop by the holder.
pub record ExcludesUnlocked : Type 0 where
  pub second_taking : IsBoardRun true two_tasks (Takes 1 ∷ Does (does 1 (Advances 1)) ∷ Does (does 0 (Blocks (here 0))) ∷ first_holds) → ⊥
  pub other_freeing : IsBoardRun true two_tasks (Frees 1 ∷ first_holds) → ⊥
  pub unlocked_block : IsBoardRun true two_tasks (Does (does 0 (Blocks (here 0))) ∷ without_lock before_block) → ⊥
  pub unlocked_refusal : IsBoardRun true two_tasks (Does (does 1 (Refuses (here 1))) ∷ second_stands) → ⊥
  pub holder_drops : IsBoardRun true two_tasks (Does (does 1 (Drops 0)) ∷ Does (does 1 (Refuses (here 1))) ∷ second_holds) → ⊥
