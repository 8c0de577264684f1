-- The serial plain run: of the tasks that may go on, the one with the least number makes the next step.
use Rattle.std.specs.Prelude.{List}
use Rattle.armus_base.specs.Plans.{Plan}
use Rattle.armus_base.specs.Runs.{IsMaximal}
use Rattle.armus_base.specs.States.{Step}
use Rattle.explain_steps.specs.SerialRuns.{IsSerialRun}

-- the serial plain run of a plan, up to its end
pub record IsWholeSerialRun (plan : Plan) (h : List Step) : Type 0 where
  pub serial : IsSerialRun plan h
  pub maximal : IsMaximal plan h
