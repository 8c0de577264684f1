use Rattle.std.proofs.Common.{List, subst}
use Rattle.monitor_laws.specs.States.{Participant}
use Rattle.monitor_rows.specs.inside.LeastPhases.{AreLeastAwaited}
use Rattle.monitor_rows.proofs.least_phases.least_awaited_in.Goals as goal

pub returns : goal.returns
returns c = subst (λ (l : List Participant). AreLeastAwaited l c.in_ok-least.least) c.participants.ensures.list c.in_ok-least.ensures
