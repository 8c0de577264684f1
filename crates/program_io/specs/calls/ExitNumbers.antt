-- The numbers with which the program ends.
use Rattle.std.specs.Prelude.{ℕ}
use Rattle.program_io.specs.declared.exit_status.ExitStatus.{ExitStatus}
use Rattle.program_io.specs.declared.exit_status.ExitStatus.TheVariants.{NoDeadlock, Deadlock, Usage, Refused, ReadFailed, WriteFailed, OutOfMemory}

-- the number of a status
abbrev pub number_of_status : ExitStatus → ℕ
number_of_status NoDeadlock = 0
number_of_status Deadlock = 1
number_of_status Usage = 2
number_of_status Refused = 3
number_of_status ReadFailed = 4
number_of_status WriteFailed = 5
number_of_status OutOfMemory = 6
