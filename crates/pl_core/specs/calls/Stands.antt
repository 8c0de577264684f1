-- How a task stands in a world, and whether it may go on.
use Rattle.std.specs.Prelude.{◌≡◌, ◌≢◌, ℕ, true, false, Some, None}
use Rattle.armus_base.specs.declared.event.Event.{Event}
use Rattle.armus_base.specs.declared.op.Op.{Op}
use Rattle.armus_base.specs.declared.op.Op.TheVariants.{Make, Reg, Fork, Adv, Drop, Await}
use Rattle.armus_base.specs.Plans.{Action, Aim, Makes, Registers, Forks, Advances, Drops, Blocks}
use Rattle.armus_base.specs.States.{State, IsActive, IsLegal, IsReached, awaited}
use Rattle.pl_core.specs.declared.stand.Stand.{Stand}
use Rattle.pl_core.specs.declared.stand.Stand.TheVariants.{Unforked, Done, Refused, Ready, Await as AtAwait, Waits}
use Rattle.pl_core.specs.calls.Worlds.{WorldValue, state_of, action_by_code}

-- task t is active, and its code goes on with something else than an await
abbrev pub IsBeforeOp : WorldValue → ℕ → Type 0
IsBeforeOp w t = IsActive (state_of w) t × (x : Action) × (action_by_code w t ≡ Some x) × ((aim : Aim) → x ≢ Blocks aim)

-- task t is active, and its code goes on with an await of the event
abbrev pub IsAtAwaitOf : WorldValue → ℕ → Event → Type 0
IsAtAwaitOf w t e = IsActive (state_of w) t × awaited (action_by_code w t) ((state_of w).phases t) ≡ Some e

-- the code of task t goes on with this op
abbrev pub GoesOnWith : WorldValue → ℕ → Op → Type 0
GoesOnWith w t (Make p) = action_by_code w t ≡ Some (Makes p.0)
GoesOnWith w t (Reg c p) = action_by_code w t ≡ Some (Registers c.0 p.0)
GoesOnWith w t (Fork c) = action_by_code w t ≡ Some (Forks c.0)
GoesOnWith w t (Adv p) = action_by_code w t ≡ Some (Advances p.0)
GoesOnWith w t (Drop p) = action_by_code w t ≡ Some (Drops p.0)
GoesOnWith w t (Await p off) = action_by_code w t ≡ Some (Blocks (record { phaser = p.0; off = off }))

-- this is how task t stands
abbrev pub StandsSo : WorldValue → ℕ → Stand → Type 0
StandsSo w t Unforked = (state_of w).forked t ≡ false
StandsSo w t Done = (state_of w).forked t ≡ true × action_by_code w t ≡ None
StandsSo w t (Refused e) = (state_of w).refused t ≡ Some e
StandsSo w t Ready = IsBeforeOp w t
StandsSo w t (AtAwait e) = IsAtAwaitOf w t e
StandsSo w t (Waits e) = (state_of w).published t ≡ Some e

-- the next action of task t by its code is legal
abbrev pub IsEnabled : WorldValue → ℕ → Type 0
IsEnabled w t = (x : Action) × (action_by_code w t ≡ Some x) × IsLegal w.plan (state_of w) t x

-- a task that stands so may go on
abbrev pub MayGoOn : State → Stand → Type 0
MayGoOn s Ready = Unit {0}
MayGoOn s (AtAwait e) = Unit {0}
MayGoOn s (Waits e) = IsReached s e
MayGoOn s stand = ⊥
