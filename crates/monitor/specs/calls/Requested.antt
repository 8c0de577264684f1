-- What a request of the code asks for.
use Rattle.std.specs.Prelude.{List, ℕ, Option, option_map}
use Rattle.std.specs.Borrow.{Bor}
use Rattle.monitor.specs.MonitorRequests.{Monitors, NoCommand, ShowsHelp, ShowsVersion, MonitorRequest as Wanted}
use Rattle.monitor.specs.declared.request.MonitorRequest.{MonitorRequest}
use Rattle.monitor.specs.declared.request.MonitorRequest.TheVariants as r

-- the bytes of a name, where there is one
abbrev pub trace_name : Option (Bor (List ℕ)) → Option (List ℕ)
trace_name file = option_map (λ f. f.now) file

-- what the request asks for
abbrev pub monitor_requested : MonitorRequest → Wanted
monitor_requested (r.Trace guards keeps_going file) = Monitors (record { guards = guards; keeps_going = keeps_going }) (trace_name file)
monitor_requested r.Help = ShowsHelp
monitor_requested r.Version = ShowsVersion
monitor_requested r.Usage = NoCommand
