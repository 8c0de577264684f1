-- Tasks and phasers by their numbers.
use Rattle.std.specs.Prelude.{ℕ}
use Rattle.armus_base.specs.declared.ids.PhaserId.{PhaserId}
use Rattle.armus_base.specs.declared.ids.TaskId.{TaskId}

-- the task with this number
abbrev pub task : ℕ → TaskId
task t = record { 0 = t }

-- the phaser with this number
abbrev pub phaser : ℕ → PhaserId
phaser p = record { 0 = p }
