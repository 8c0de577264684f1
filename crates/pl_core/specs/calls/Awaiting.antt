-- The statuses of those who await.
use Rattle.std.specs.Prelude.{List}
use Rattle.armus_base.specs.declared.status.Status.{Status}
use Rattle.armus_base.specs.Finals.{is_awaited, statuses_on}
use Rattle.armus_base.specs.Plans.{Plan}
use Rattle.armus_base.specs.States.{State}

-- the statuses of the published tasks, in order of number, each with its phases on the phasers that some of them await
abbrev pub awaited_statuses : Plan → State → List Status
awaited_statuses plan s = statuses_on plan s (is_awaited plan s)
