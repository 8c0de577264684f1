-- The seat of a task that walks along the task's code.
use Rattle.std.specs.Prelude.{◌≡◌, ◌<◌, ◌∷◌, List, Option, Some, None, drop, false, length}
use Rattle.armus_base.specs.declared.event.Event.{Event}
use Rattle.armus_base.specs.declared.op.Op.{Op}
use Rattle.armus_base.specs.declared.op.Op.TheVariants.{Make, Reg, Fork, Adv, Drop, Await}
use Rattle.armus_base.specs.Plans.{Plan, Action, Makes, Registers, Forks, Advances, Drops, Blocks, Passes, actions, actions_of}
use Rattle.board.specs.calls.Views.{own_place, task_of}
use Rattle.board.specs.calls.Seats.{Known, aim_at, event_of}

-- the action with which an op begins
abbrev pub begins : Op → Action
begins (Make p) = Makes p.0
begins (Reg c p) = Registers c.0 p.0
begins (Fork c) = Forks c.0
begins (Adv p) = Advances p.0
begins (Drop p) = Drops p.0
begins (Await p off) = Blocks (aim_at p.0 off)

-- the child and the phaser of an action are the plan's
abbrev pub IsActionOfPlan : Plan → Action → Type 0
IsActionOfPlan plan (Makes p) = p < length plan.makers
IsActionOfPlan plan (Registers c p) = c < length plan.parents × p < length plan.makers
IsActionOfPlan plan (Forks c) = c < length plan.parents
IsActionOfPlan plan (Advances p) = p < length plan.makers
IsActionOfPlan plan (Drops p) = p < length plan.makers
IsActionOfPlan plan (Blocks a) = a.phaser < length plan.makers
IsActionOfPlan plan x = Unit {0}

-- the actions that are left to a task that has begun all ops but these: while it is published it has a pass to make first
abbrev pub left_of : Option Event → List Op → List Action
left_of None ops = actions_of ops
left_of (Some e) ops = Passes e.p.0 ∷ actions_of ops

-- the seat of a task that has begun all ops of its code but these, is not refused, and does not hold the lock
pub record HasLeft (ops : List Op) (k : Known) : Type 0 where
  pub free : k.view.holds ≡ false
  pub unrefused : (own_place k.view).dropped ≡ None
  pub left : drop (own_place k.view).done (actions k.view.plan (task_of k.view)) ≡ left_of (event_of k) ops
