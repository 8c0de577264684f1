use Rattle.std.proofs.Common.{sym, subst, []}
use Rattle.monitor_messages.specs.Runs.{MonitorOptions}
use Rattle.monitor.specs.inside.Ending.{HasListened}
use Rattle.monitor.proofs.Calls.{begun}
use Rattle.monitor.proofs.top.monitor_trace.Goals as goal

pub returns-clause-ends : goal.returns-clause-ends
returns-clause-ends g c =
    let options : MonitorOptions = record { guards = c.args.guards; keeps_going = c.args.keeps_going } in
    let log = c.listen.ensures.ends in
    let ends = log.2 options (subst (HasListened options []) (sym c.new-listener.ensures) (begun options)) in
    (log.0, log.1, ends.0, ends.1)

pub returns-clause-whole : goal.returns-clause-whole
returns-clause-whole g c =
    let options : MonitorOptions = record { guards = c.args.guards; keeps_going = c.args.keeps_going } in
    c.listen.ensures.whole options (subst (HasListened options []) (sym c.new-listener.ensures) (begun options))
