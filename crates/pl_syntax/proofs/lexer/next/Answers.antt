use Rattle.std.proofs.Common.{ap, ◌∙◌}
use Rattle.pl_syntax.specs.Tokens.{front, token_here}
use Rattle.pl_syntax.proofs.Fronts.{form_seen}
use Rattle.pl_syntax.proofs.lexer.next.Goals as goal

pub returns-clause-name : goal.returns-clause-name
unfolding front
returns-clause-name c =
    form_seen c.args.scan c.args.text.now c.token_here.result (c.token_here.ensures.exact ∙ ap (token_here c.args.scan) c.after_gap.ensures.gap)
