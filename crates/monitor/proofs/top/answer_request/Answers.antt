use Rattle.std.proofs.Common.{sym, subst}
use Rattle.monitor.specs.MonitorCalls.{EndsAsked}
use Rattle.monitor.specs.calls.Requested.{monitor_requested}
use Rattle.monitor.specs.calls.StatusNumbers.{number_of_monitor_status}
use Rattle.monitor.specs.declared.request.MonitorRequest.TheVariants.{Trace}
use Rattle.monitor.proofs.top.answer_request.Goals as goal

pub returns-in-Trace-clause-ends : goal.returns-in-Trace-clause-ends
returns-in-Trace-clause-ends g c =
    let ends = c.monitor_trace.ensures.ends in
    let status = number_of_monitor_status c.monitor_trace.result in
    let asked : EndsAsked (monitor_requested (Trace c.in-Trace.guards c.in-Trace.keeps_going c.in-Trace.field-2)) ends.0 status = (ends.2, ends.3) in
    (ends.0, ends.1, subst (λ r. EndsAsked (monitor_requested r) ends.0 status) (sym c.in-Trace.is) asked)
