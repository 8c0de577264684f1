-- Runs that avoid deadlock, with one worker and with several, and the worlds to which they lead.
use Rattle.std.specs.Prelude.{◌≡◌, List}
use Rattle.armus_base.specs.declared.ending.Final.{Final}
use Rattle.armus_base.specs.Avoidance.{IsAvoidedFinal}
use Rattle.armus_base.specs.CheckedPlans.{IsCheckedPlan}
use Rattle.armus_base.specs.Deadlocks.{NobodyDead}
use Rattle.armus_base.specs.Finals.{final_of}
use Rattle.armus_base.specs.Plans.{Plan}
use Rattle.armus_base.specs.Runs.{state_after}
use Rattle.armus_base.specs.Serial.{IsSerialAvoidedEnd, IsSerialAvoidedFinal}
use Rattle.armus_base.specs.States.{State, Step}

-- the value is that of a state in which a maximal avoided run of the plan ends, and nobody is dead in it
pub record IsAvoidedEnd (plan : Plan) (end : Final) : Type 0 where
  pub state : State
  pub final : IsAvoidedFinal plan state
  pub nobody : NobodyDead state
  pub is_it : end ≡ final_of plan state

-- the value is that of the state in which the one serial avoided run of the plan ends, and nobody is dead in it
pub record IsSerialEnd (plan : Plan) (end : Final) : Type 0 where
  pub state : State
  pub final : IsSerialAvoidedFinal plan state
  pub every : (h : List Step) → IsSerialAvoidedEnd plan h → state_after h ≡ state
  pub nobody : NobodyDead state
  pub is_it : end ≡ final_of plan state

-- the serial avoided run of each checked plan ends
abbrev pub SerialRunEnds : Type 0
SerialRunEnds = (plan : Plan) → IsCheckedPlan plan → (s : State) × IsSerialAvoidedFinal plan s
