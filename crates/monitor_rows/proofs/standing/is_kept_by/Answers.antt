use Rattle.std.proofs.Common.{sym, ◌∙◌, ap}
use Rattle.monitor_laws.specs.Faults.{waits_now}
use Rattle.monitor_rows.proofs.LeastPhases.{not_kept}
use Rattle.monitor_rows.proofs.standing.is_kept_by.Goals as goal

pub returns-else-waits : goal.returns-else-waits
returns-else-waits c = c.if-waits.false ∙ not_kept c.args.list.now c.args.t.now.condition (sym (c.waits.ensures ∙ ap waits_now c.condition.ensures) ∙ c.if-waits.false)
