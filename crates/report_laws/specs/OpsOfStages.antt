-- That the statement that is told of an op is that of the stage of the unfolding that adds it to the code of its task.
use Rattle.std.specs.Prelude.{◌≡◌, ℕ, true, List, [], ◌∷◌, ◌++◌, Some, length, slice_index_or}
use Rattle.pl_syntax.specs.declared.tree.Program.{Program}
use Rattle.pl_plan.specs.Stages.{Stage, StagesLead, all_stages, comes}
use Rattle.pl_plan.specs.Unfolding.{UnfoldingState, Visit, opening_state}
use Rattle.source_map.specs.Origins.{comes_to_op, op_origin}

-- where one of all stages of a program is a coming that makes an op, which stands in the code of the task behind those of the stages before it, the statement that is
-- told of this op is that of the coming
abbrev pub OpsAreToldByTheirStages : Type 0
OpsAreToldByTheirStages =
    (program : Program) (stages before after : List Stage) (end s : UnfoldingState) (t : ℕ) (m : Visit) →
    StagesLead program.two [] stages (opening_state program.body) end → all_stages program.two end ≡ stages → stages ≡ before ++ (comes t m ∷ after) →
    StagesLead program.two [] before (opening_state program.body) s → comes_to_op m.coming ≡ true →
    op_origin program t (length (slice_index_or s.plan.codes t [])) ≡ Some m.statement
