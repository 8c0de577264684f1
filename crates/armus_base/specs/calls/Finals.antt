-- Final states as data: how each task has ended, and the statuses of the blocked tasks.
use Rattle.std.specs.Prelude.{true, List}
use Rattle.armus_base.specs.declared.status.Status.{Status}
use Rattle.armus_base.specs.Plans.{Plan}
use Rattle.armus_base.specs.States.{State}
use Rattle.armus_base.specs.Finals.{statuses_on}

-- the statuses of the published tasks, in order of number, each with all its phases
abbrev pub statuses_of : Plan → State → List Status
statuses_of plan s = statuses_on plan s (λ p. true)
