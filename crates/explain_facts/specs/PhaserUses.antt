-- Which phasers the ops of a plan use, and how.
use Rattle.std.specs.Prelude.{ℕ, ◌==◌, Bool, false, List, Option, Some, None, length}
use Rattle.std.specs.List.{list_any}
use Rattle.armus_base.specs.declared.ids.PhaserId.{PhaserId}
use Rattle.armus_base.specs.declared.op.Op.{Op}
use Rattle.armus_base.specs.declared.op.Op.TheVariants.{Await, Reg}
use Rattle.armus_base.specs.Places.{some_before}
use Rattle.armus_base.specs.Plans.{Plan, code_of}
use Rattle.explain_facts.specs.declared.uses.PhaserUse.{PhaserUse}
use Rattle.explain_facts.specs.declared.uses.PhaserUse.TheVariants.{Awaits, Registers}

-- the phaser that an op awaits
abbrev pub awaiting : Op → Option PhaserId
awaiting (Await p off) = Some p
awaiting op = None

-- the phaser on which an op registers a task
abbrev pub registering : Op → Option PhaserId
registering (Reg c p) = Some p
registering op = None

-- the phaser that an op uses so
abbrev pub used_by : PhaserUse → Op → Option PhaserId
used_by Awaits op = awaiting op
used_by Registers op = registering op

-- it is phaser q
abbrev pub is_on_phaser : ℕ → Option PhaserId → Bool
is_on_phaser q None = false
is_on_phaser q (Some p) = p.0 == q

-- one of the ops uses phaser q so
abbrev pub some_op : PhaserUse → List Op → ℕ → Bool
some_op use_so ops q = list_any (λ op. is_on_phaser q (used_by use_so op)) ops

-- an op of the plan uses phaser q so
abbrev pub is_used_so : PhaserUse → Plan → ℕ → Bool
is_used_so use_so plan q = some_before (λ t. some_op use_so (code_of plan t) q) (length plan.parents)
