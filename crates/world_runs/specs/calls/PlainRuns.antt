-- The end of the plain runs of a plan.
use Rattle.std.specs.Prelude.{◌≡◌, List}
use Rattle.armus_base.specs.declared.ending.Final.{Final}
use Rattle.armus_base.specs.Finals.{final_of}
use Rattle.armus_base.specs.Plans.{Plan}
use Rattle.armus_base.specs.Runs.{IsFinal, IsMaximal, IsPlainRun, state_after}
use Rattle.armus_base.specs.States.{State, Step}

-- the value is that of the state in which every maximal plain run of the plan ends
pub record IsPlainEnd (plan : Plan) (end : Final) : Type 0 where
  pub state : State
  pub final : IsFinal plan state
  pub every : (h : List Step) → IsPlainRun plan h → IsMaximal plan h → state_after h ≡ state
  pub is_it : end ≡ final_of plan state
