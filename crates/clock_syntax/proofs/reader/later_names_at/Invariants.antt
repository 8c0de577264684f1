use Rattle.std.proofs.Common.{ℕ, List, length}
use Rattle.pl_syntax.proofs.Turns.{Turn}
use Rattle.clock_syntax.specs.inside.ClockReading.{closes_names, comma_name}
use Rattle.clock_syntax.proofs.reader.later_names_at.Given as goal

abbrev pub invariant-loop-names : goal.invariant-loop-names
invariant-loop-names l = Turn (List ℕ) closes_names comma_name l.names.items l.scan 0 l.rest l.text

abbrev pub decreases-loop-names : goal.decreases-loop-names
decreases-loop-names l = length l.rest
