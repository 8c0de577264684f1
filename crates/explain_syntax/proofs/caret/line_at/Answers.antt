use Rattle.std.proofs.Common.{ap, ◌∙◌}
use Rattle.std.specs.List.{prefix_len}
use Rattle.std.proofs.lemmas.List.{take_rest}
use Rattle.explain_syntax.proofs.LineParts.{line_so}
use Rattle.explain_syntax.proofs.caret.line_at.Goals as goal

pub returns : goal.returns
returns c =
    line_so c.args.text.now c.args.at c.column_of.result c.line_len-rest.result _ _ c.requires c.column_of.ensures.within c.column_of.ensures.columns
    (c.line_len-rest.ensures.bytes ∙ ap (prefix_len _) (take_rest c.args.text.now c.args.at))
