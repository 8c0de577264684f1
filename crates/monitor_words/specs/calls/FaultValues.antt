-- The faults that values of the code stand for.
use Rattle.monitor_laws.specs.Faults.{DoesNotWait, IsAtLastPhase, IsMemberAlready, IsNoMember, LineFault, Malformed, NamesTask, NamesWildcard, StillWaits, TooManyListed, TooManyMemberships}
use Rattle.monitor_words.specs.declared.faults.FaultOfLine.{FaultOfLine}
use Rattle.monitor_words.specs.declared.faults.FaultOfLine.TheVariants as f

-- the fault that a value of the code stands for
abbrev pub fault_of_line : FaultOfLine → LineFault
fault_of_line f.Malformed = Malformed
fault_of_line (f.NamesTask w) = NamesTask w.now
fault_of_line (f.NamesWildcard t) = NamesWildcard t.now
fault_of_line (f.StillWaits t) = StillWaits t.now
fault_of_line (f.DoesNotWait t) = DoesNotWait t.now
fault_of_line (f.IsMemberAlready t p) = IsMemberAlready t.now p.now
fault_of_line (f.IsNoMember t p) = IsNoMember t.now p.now
fault_of_line (f.IsAtLastPhase t p) = IsAtLastPhase t.now p.now
fault_of_line f.TooManyListed = TooManyListed
fault_of_line f.TooManyMemberships = TooManyMemberships
