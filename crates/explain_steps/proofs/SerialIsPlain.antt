-- The serial plain run is a plain run.
use Rattle.std.proofs.Common.{List, [], ◌∷◌}
use Rattle.armus_base.specs.Plans.{Plan}
use Rattle.armus_base.specs.Runs.{IsPlainRun}
use Rattle.armus_base.specs.States.{Step}
use Rattle.explain_steps.specs.SerialRuns.{IsSerialRun}

pub serial_is_plain : (plan : Plan) (h : List Step) → IsSerialRun plan h → IsPlainRun plan h
serial_is_plain plan [] run = (tt, tt)
serial_is_plain plan (e ∷ h) (before, step) =
    let (legal, plain) = serial_is_plain plan h before in
    ((legal, step.next), (plain, step.plain))
