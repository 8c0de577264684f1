use Rattle.std.proofs.Common.{◌≡◌, ◌≤◌, length}
use Rattle.pl_syntax.specs.Tokens.{after_comment}
use Rattle.pl_syntax.proofs.lexer.after_comment.Given as goal

abbrev pub invariant-loop-rest : goal.invariant-loop-rest
invariant-loop-rest l = (after_comment l.rest ≡ after_comment l.text) × (length l.rest ≤ length l.text)

abbrev pub decreases-loop-rest : goal.decreases-loop-rest
decreases-loop-rest l = length l.rest
