use Rattle.std.proofs.Common.{◌≡◌, [], List}
use Rattle.monitor_messages.specs.Runs.{MonitorOptions}
use Rattle.monitor.specs.Transfers.{PassesThrough, Transfer}
use Rattle.monitor.specs.inside.Ending.{HasListened}
use Rattle.monitor.proofs.top.listen.Given as goal

abbrev pub invariant-loop : goal.invariant-loop
invariant-loop g l =
    (l.out.items ≡ [])
    × ((log : List Transfer) × PassesThrough (g.P.Port.view l.initial.port) (g.P.Port.view l.port) log × ((options : MonitorOptions) → HasListened options [] l.initial.listener → HasListened options log l.listener))
    × (g.P.Port.read_faults l.port ≡ g.P.Port.read_faults l.initial.port)
    × (g.P.Port.write_faults l.port ≡ g.P.Port.write_faults l.initial.port)
