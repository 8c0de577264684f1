use Rattle.std.proofs.Common.{ap, ◌∙◌}
use Rattle.trace_lines.specs.Values.{line_value, place_value, said_value}
use Rattle.monitor_laws.specs.Lines.{Announces}
use Rattle.monitor_messages.proofs.guard.wait_of.Goals as goal

pub returns-in-Waits-clause-some : goal.returns-in-Waits-clause-some
returns-in-Waits-clause-some c =
    (c.in-Waits.field-0.now, c.in-Waits.field-1, ap line_value c.in-Announces.is ∙ ap (λ what. Announces c.in-Announces.t.now (said_value what) (place_value c.in-Announces.place)) c.in-Waits.is)
