-- The line of a fault.
use Rattle.std.specs.Prelude.{ℕ, List, ◌++◌, codes, decimal}
use Rattle.monitor_laws.specs.Faults.{DoesNotWait, IsAtLastPhase, IsMemberAlready, IsNoMember, LineFault, Malformed, NamesTask, NamesWildcard, StillWaits, TooManyListed, TooManyMemberships}
use Rattle.monitor_words.specs.Words.{message_line}

-- TEXT of a fault
abbrev pub line_fault_words : LineFault → List ℕ
line_fault_words Malformed = codes "malformed"
line_fault_words (NamesTask w) = w ++ codes " is a task"
line_fault_words (NamesWildcard t) = t ++ codes " is a wildcard"
line_fault_words (StillWaits t) = t ++ codes " waits"
line_fault_words (DoesNotWait t) = t ++ codes " does not wait"
line_fault_words (IsMemberAlready t p) = t ++ codes " is a member of " ++ p
line_fault_words (IsNoMember t p) = t ++ codes " is no member of " ++ p
line_fault_words (IsAtLastPhase t p) = t ++ codes " is at the last phase of " ++ p
line_fault_words TooManyListed = codes "there are 65536 tasks"
line_fault_words TooManyMemberships = codes "there are 1048576 memberships"

-- the line on the fault of line number l, counted from 1
abbrev pub fault_line : ℕ → LineFault → List ℕ
fault_line l fault = message_line (codes "line " ++ decimal l ++ codes ": " ++ line_fault_words fault)
