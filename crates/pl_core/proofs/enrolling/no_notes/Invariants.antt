use Rattle.std.proofs.Common.{◌≡◌, length}
use Rattle.pl_core.proofs.enrolling.no_notes.Given as goal

abbrev pub invariant-loop : goal.invariant-loop
invariant-loop l = length l.rows.items ≡ l.counter
