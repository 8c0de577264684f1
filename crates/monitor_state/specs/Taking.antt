-- What becomes of a state by a line that is taken, or is at fault.
use Rattle.std.specs.Prelude.{Option, Some, None}
use Rattle.monitor_laws.specs.Lines.{TraceLine}
use Rattle.monitor_laws.specs.States.{TraceState, after_line}
use Rattle.monitor_laws.specs.Faults.{LineFault}

-- a line at fault changes nothing
abbrev pub taken_state : TraceState → TraceLine → Option LineFault → TraceState
taken_state s l None = after_line s l
taken_state s l (Some fault) = s
