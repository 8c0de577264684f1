use Rattle.std.proofs.Common.{◌≡◌, ◌≤◌, length}
use Rattle.pl_syntax.specs.Tokens.{after_gap}
use Rattle.pl_syntax.proofs.lexer.after_gap.Given as goal

abbrev pub invariant-loop-rest : goal.invariant-loop-rest
invariant-loop-rest l = (after_gap l.rest ≡ after_gap l.text) × (length l.rest ≤ length l.text)

abbrev pub decreases-loop-rest : goal.decreases-loop-rest
decreases-loop-rest l = length l.rest
