-- That what is told of a phaser, and of where a task is forked, is the statement from which the op comes that does it.
use Rattle.std.specs.Prelude.{◌≡◌, ℕ, [], Ok, Some, slice_index_or}
use Rattle.std.specs.List.{slice_get}
use Rattle.armus_base.specs.declared.ids.PhaserId.{PhaserId}
use Rattle.armus_base.specs.declared.ids.TaskId.{TaskId}
use Rattle.armus_base.specs.declared.op.Op.TheVariants.{Fork, Make}
use Rattle.armus_base.specs.Plans.{Plan}
use Rattle.pl_syntax.specs.declared.tree.Program.{Program}
use Rattle.pl_plan.specs.Unfolding.{plan_of}
use Rattle.source_map.specs.Origins.{fork_origin, op_origin, phaser_origin}

-- each op that makes a phaser comes from the statement that is told of this phaser
abbrev pub PhasersAreToldByTheirOps : Type 0
PhasersAreToldByTheirOps =
    (program : Program) (plan : Plan) → plan_of program ≡ Ok plan → (t i : ℕ) (p : PhaserId) →
    slice_get (slice_index_or plan.codes t []) i ≡ Some (Make p) → op_origin program t i ≡ phaser_origin program p.0

-- each op that forks a task comes from the statement that is told of its fork
abbrev pub ForksAreToldByTheirOps : Type 0
ForksAreToldByTheirOps =
    (program : Program) (plan : Plan) → plan_of program ≡ Ok plan → (t i : ℕ) (c : TaskId) →
    slice_get (slice_index_or plan.codes t []) i ≡ Some (Fork c) → op_origin program t i ≡ fork_origin program c.0
