-- The numbers with which the monitor ends.
use Rattle.std.specs.Prelude.{ℕ}
use Rattle.monitor.specs.declared.monitor_status.MonitorStatus.{MonitorStatus}
use Rattle.monitor.specs.declared.monitor_status.MonitorStatus.TheVariants.{NobodyWaits, SomebodyWaits, NoCommand, LineAtFault, ReadFailed, WriteFailed, OutOfMemory}

-- the number of a status
abbrev pub number_of_monitor_status : MonitorStatus → ℕ
number_of_monitor_status NobodyWaits = 0
number_of_monitor_status SomebodyWaits = 1
number_of_monitor_status NoCommand = 2
number_of_monitor_status LineAtFault = 3
number_of_monitor_status ReadFailed = 4
number_of_monitor_status WriteFailed = 5
number_of_monitor_status OutOfMemory = 6
