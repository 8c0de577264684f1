use Rattle.std.proofs.Common.{◌≡◌, ◌≤◌, drop}
use Rattle.pl_syntax.specs.declared.limits.TheConstants.{MAX_NUMBER}
use Rattle.pl_syntax.specs.Words.{value_from}
use Rattle.pl_syntax.proofs.word.value_of.Given as goal

abbrev pub invariant-loop-b : goal.invariant-loop-b
invariant-loop-b l = (value_from l.value (drop l.b-index l.word) ≡ value_from 0 l.word) × (l.value ≤ MAX_NUMBER)
