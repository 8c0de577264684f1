-- Ops, and the action with which each begins.
use Rattle.std.specs.Prelude.{ℕ}
use Rattle.armus_base.specs.declared.op.Op.{Op}
use Rattle.armus_base.specs.declared.op.Op.TheVariants.{Make, Reg, Fork, Adv, Drop, Await}
use Rattle.armus_base.specs.Plans.{Action, Makes, Registers, Forks, Advances, Drops, Blocks}
use Rattle.armus_base.specs.States.{Phases, opening, after}

-- the action with which an op begins
abbrev pub action_of : Op → Action
action_of (Make p) = Makes p.0
action_of (Reg c p) = Registers c.0 p.0
action_of (Fork c) = Forks c.0
action_of (Adv p) = Advances p.0
action_of (Drop p) = Drops p.0
action_of (Await p off) = Blocks (record { phaser = p.0; off = off })

-- the phases of all tasks after a step of task t
abbrev pub phases_moved : (ℕ → Phases) → ℕ → Action → ℕ → Phases
phases_moved f t x = (after (record opening { phases = f }) t x).phases

-- the op changes nothing but phases, and who has made what
abbrev pub ChangesPhases : Op → Type 0
ChangesPhases (Fork c) = ⊥
ChangesPhases (Await p off) = ⊥
ChangesPhases op = Unit {0}
