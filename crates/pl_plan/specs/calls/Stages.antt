-- What an unfolding is, in other words than its computation: stage by stage, each task in order of number begins and visits its statements;
-- and the first stage at fault.
use Rattle.std.specs.Prelude.{◌≡◌, ℕ, List, []}
use Rattle.armus_base.specs.Plans.{Plan}
use Rattle.pl_syntax.specs.declared.tree.Program.{Program}
use Rattle.pl_plan.specs.Unfolding.{UnfoldingState, opening_state}
use Rattle.pl_plan.specs.calls.Folding.{HaveCodePieces}
use Rattle.pl_plan.specs.Stages.{Stage, StagesLead, all_stages}

-- A program unfolds to a plan: in some list of stages each is the next one and passes its tests, and they are all; the plan is that of the state
-- after them, with the pieces of its codes.
pub record Unfolds (program : Program) (plan : Plan) : Type 0 where
  pub stages : List Stage
  pub end : UnfoldingState
  pub leads : StagesLead program.two [] stages (opening_state program.body) end
  pub all : all_stages program.two end ≡ stages
  pub plan_is : plan ≡ record end.plan { pieces = plan.pieces }
  pub pieces : HaveCodePieces program.two end plan.pieces
